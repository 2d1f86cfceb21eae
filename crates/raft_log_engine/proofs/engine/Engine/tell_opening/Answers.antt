use Rattle.std.proofs.Common.{subst}
use Rattle.raft_listeners.proofs.HeardLemmas.{heard_none}
use Rattle.raft_log_engine.proofs.OpensLemmas.{opens_given_up}
use Rattle.raft_log_engine.specs.Opening.{Opens}
use Rattle.raft_log_engine.proofs.engine.Engine.tell_opening.Goals as goal

pub returns-in-Err-tell_opened-clause-opened : goal.returns-in-Err-tell_opened-clause-opened
returns-in-Err-tell_opened-clause-opened g c = λ config found opens.
    let still = c.give_up.ensures.unchanged in
    opens_given_up config found c.in-Ok.engine c.give_up.result c.in-Err-tell_opened.fault c.in-Err-tell_opened.ensures.cause still.0 still.1 still.2 (subst (λ x. Opens {g = g.F.FileSystem} config found x) c.in-Ok.is opens)

pub returns-in-Err-clause-silent : goal.returns-in-Err-clause-silent
returns-in-Err-clause-silent g c = heard_none (g.L.EventSink.heard c.args.listeners.now)
