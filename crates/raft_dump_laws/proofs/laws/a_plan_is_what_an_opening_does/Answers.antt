use Rattle.raft_dump_laws.proofs.PlanLemmas.{plan_fails, plan_opens, plan_read, plan_refused}
use Rattle.raft_dump_laws.proofs.laws.a_plan_is_what_an_opening_does.Goals as goal

pub returns-clause-opens : goal.returns-clause-opens
returns-clause-opens c = plan_opens

pub returns-clause-read : goal.returns-clause-read
returns-clause-read c = plan_read

pub returns-clause-fails : goal.returns-clause-fails
returns-clause-fails c = plan_fails

pub returns-clause-refused : goal.returns-clause-refused
returns-clause-refused c = plan_refused
