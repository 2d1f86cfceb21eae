-- A rotation, whatever is to be answered.
use Rattle.std.proofs.Common.{List}
use Rattle.std.specs.Prelude.{Err, Ok}
use Rattle.raft_base.specs.declared.pipe_log.LogQueue.{LogQueue}
use Rattle.raft_env.specs.Directory.{Directory}
use Rattle.raft_env.specs.Refusal.{Refusals}
use Rattle.raft_queues.specs.Dual.{DualState}
use Rattle.raft_purge_steps.specs.Rotates.{Rotates}
use Rattle.raft_purge_steps.specs.declared.fault.StepFault.{StepFault}
use Rattle.raft_purge_steps.proofs.AnewLemmas.{err_of}

module _ {F : Type 0} {directory : F → Directory} {moments : F → List Directory} {refusals_of : F → Refusals} {T U : Type 0} {queue : LogQueue} {d d' : DualState} {o n : F} where
  pub rotates_ok : {x : T} {y : U} → Rotates directory moments refusals_of queue (Ok x) d d' o n → Rotates directory moments refusals_of queue (Ok y) d d' o n
  rotates_ok r = record { others = r.others; first = r.first; folders = r.folders; now = r.now; side = r.side; any_moment = r.any_moment; cause = tt }

  pub rotates_err : (f : StepFault) → Rotates directory moments refusals_of {T = T} queue (Err f) d d' o n → Rotates directory moments refusals_of {T = U} queue (Err f) d d' o n
  rotates_err f r = record { others = r.others; first = r.first; folders = tt; now = err_of T U f _ _ (λ keeps. keeps) r.now; side = err_of T U f _ _ (λ side. side) r.side; any_moment = r.any_moment; cause = r.cause }
