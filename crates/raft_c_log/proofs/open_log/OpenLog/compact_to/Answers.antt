use Rattle.std.proofs.Common.{refl}
use Rattle.raft_c_log.proofs.CallLemmas.{call_err, call_ok}
use Rattle.raft_c_log.proofs.open_log.OpenLog.compact_to.Goals as goal

pub returns-in-Ok : goal.returns-in-Ok
returns-in-Ok g c = record { called = call_ok _ (c.in-Ok.ensures) refl }

pub returns-in-Err : goal.returns-in-Err
returns-in-Err g c = record { called = call_err (c.in-Err.ensures) }
