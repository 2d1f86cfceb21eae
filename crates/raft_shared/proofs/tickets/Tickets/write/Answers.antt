use Rattle.raft_shared.proofs.Telling.{keeps_refused, on_err}
use Rattle.raft_shared.proofs.tickets.Tickets.write.Goals as goal

pub returns-in-Some-clause-refused : goal.returns-in-Some-clause-refused
returns-in-Some-clause-refused g c = on_err c.of.result _ (keeps_refused _ _ _ _ _ _ _ c.in_ok-receipt.ensures.ok)

pub returns-in-None-clause-refused : goal.returns-in-None-clause-refused
returns-in-None-clause-refused g c = keeps_refused _ _ _ _ _ _ _ c.in_ok-receipt.ensures.ok
