use Rattle.std.proofs.Common.{refl}
use Rattle.raft_c_log.proofs.CallLemmas.{call_err, call_ok}
use Rattle.raft_c_log.proofs.open_log.OpenLog.rewrite_append_queue.Goals as goal

pub returns-in-Ok : goal.returns-in-Ok
returns-in-Ok g c = record { called = call_ok _ (record { log = c.in-Ok.ensures.log; files = c.in-Ok.ensures.files; failed = c.in-Ok.ensures.failed; unchanged = c.in-Ok.ensures.unchanged }) refl }

pub returns-in-Err : goal.returns-in-Err
returns-in-Err g c = record { called = call_err (record { log = c.in-Err.ensures.log; files = c.in-Err.ensures.files; failed = c.in-Err.ensures.failed; unchanged = c.in-Err.ensures.unchanged }) }
