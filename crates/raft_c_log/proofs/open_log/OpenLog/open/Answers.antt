use Rattle.raft_c_log.proofs.CodeLemmas.{kept_code}
use Rattle.raft_c_log.proofs.OpeningLemmas.{opened_by, opening_keeps, refusal_keeps, refused_by}
use Rattle.raft_c_log.proofs.open_log.OpenLog.open.Goals as goal

pub returns-in-Ok-clause-ok : goal.returns-in-Ok-clause-ok
returns-in-Ok-clause-ok g c = opened_by c.in-Ok.engine c.in-Ok.ensures.opens

pub returns-in-Ok-clause-any_moment : goal.returns-in-Ok-clause-any_moment
returns-in-Ok-clause-any_moment g c = opening_keeps c.in-Ok.engine c.in-Ok.ensures.opens

pub returns-in-Err-clause-cause : goal.returns-in-Err-clause-cause
returns-in-Err-clause-cause g c = refused_by c.in-Err.refused (kept_code c.in-Err.refused.fault c.keep.ensures.value) c.in-Err.ensures.opens

pub returns-in-Err-clause-any_moment : goal.returns-in-Err-clause-any_moment
returns-in-Err-clause-any_moment g c = refusal_keeps c.in-Err.refused c.in-Err.ensures.opens
