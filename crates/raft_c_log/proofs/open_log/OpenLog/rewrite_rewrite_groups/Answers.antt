use Rattle.std.proofs.Common.{rules}
use Rattle.raft_c_log.proofs.CallLemmas.{call_err, call_ok}
use Rattle.raft_c_log.proofs.open_log.OpenLog.rewrite_rewrite_groups.Goals as goal

pub returns-in-Ok : goal.returns-in-Ok
returns-in-Ok g c = record { called = call_ok _ (record { log = c.in-Ok.ensures.log; groups = c.in-Ok.ensures.groups; failed = c.in-Ok.ensures.failed; unchanged = c.in-Ok.ensures.unchanged }) (search rules) }

pub returns-in-Err : goal.returns-in-Err
returns-in-Err g c = record { called = call_err (record { log = c.in-Err.ensures.log; groups = c.in-Err.ensures.groups; failed = c.in-Err.ensures.failed; unchanged = c.in-Err.ensures.unchanged }) }
