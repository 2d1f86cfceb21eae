use Rattle.std.proofs.Common.{IfSome}
use Rattle.raft_memory.specs.declared.armed.FsCall.TheVariants.{Read}
use Rattle.raft_memory.proofs.ArmedLemmas.{IsAmong}
use Rattle.raft_memory.proofs.armed.Armed.fault_for_read.Given as goal

abbrev pub invariant-loop-armed : goal.invariant-loop-armed
invariant-loop-armed l = IfSome l.due (λ kind. IsAmong l.armed-items Read kind)
