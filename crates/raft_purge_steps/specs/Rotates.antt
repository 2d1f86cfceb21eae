-- What a step that may begin a queue's next file does to the log.
use Rattle.std.specs.Prelude.{◌≡◌, IfErr, List, OnOk, Result}
use Rattle.raft_base.specs.declared.pipe_log.LogQueue.{LogQueue}
use Rattle.raft_env.specs.Directory.{Directory}
use Rattle.raft_env.specs.Moments.{MovesBy}
use Rattle.raft_env.specs.Refusal.{Refusals}
use Rattle.raft_queues.specs.Dual.{DualState, KeepsOtherPipe, StandSideBySide, pipe_of}
use Rattle.raft_purge_steps.specs.Faults.{IsPurgeRefusal, KeepsFolders}
use Rattle.raft_purge_steps.specs.Steps.{IfStands, KeepsEachLog, KeepsEachLogAt}
use Rattle.raft_purge_steps.specs.declared.fault.StepFault.{StepFault}

-- for files with this directory, these moments inside calls, and these counts of failed calls
module _ {F : Type 0} (directory : F → Directory) (moments : F → List Directory)
    (refusals_of : F → Refusals) where
  -- the queue may get a next file; the log is kept, unless the step fails with `Fails`
  pub record Rotates {T : Type 0} (queue : LogQueue) (result : Result T StepFault)
      (d d' : DualState) (old new : F) : Type 0 where
    pub others : KeepsOtherPipe queue d d'
    pub first : (pipe_of queue d').first ≡ (pipe_of queue d).first
    pub folders : OnOk result (KeepsFolders d d')
    pub now : IfStands result (KeepsEachLog d d' (directory old) (directory new))
    pub side : IfStands result (StandSideBySide d' (directory new))
    pub any_moment : MovesBy directory moments refusals_of (KeepsEachLogAt d) old new
    pub cause : IfErr result (IsPurgeRefusal d d' (directory new) (refusals_of old)
        (refusals_of new) (λ _. ⊥))
