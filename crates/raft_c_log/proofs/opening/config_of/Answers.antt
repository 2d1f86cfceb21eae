use Rattle.raft_c_log.proofs.OpeningLemmas.{text_refused}
use Rattle.raft_c_log.proofs.opening.config_of.Goals as goal

pub returns-in-Ok-clause-cause : goal.returns-in-Ok-clause-cause
returns-in-Ok-clause-cause c = text_refused c.in-Ok.ensures.cases.0 _ c.read.ensures.cause
