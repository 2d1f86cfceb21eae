-- What a close of an open log leaves.
use Rattle.std.specs.Prelude.{◌≡◌, ◌↔◌, true, ℤ, pos}
use Rattle.raft_base.specs.Fault.{fault_code}
use Rattle.raft_base.specs.declared.errors.Fault.{Fault}
use Rattle.raft_base.specs.declared.pipe_log.LogQueue.TheVariants.{Rewrite}
use Rattle.raft_env.specs.Moments.{MovesBy, OnlyReads}
use Rattle.raft_env.specs.Refusal.{FailsCountedAt}
use Rattle.raft_env.specs.declared.env.FileSystem.{Ghosts}
use Rattle.raft_crash_laws.specs.Crash.{LeavesAllowed, RecoversContents}
use Rattle.raft_crash_laws.specs.Log.{do_groups_ascend}
use Rattle.raft_crash_laws.specs.Queues.{ReadCompletedRecordsIfSimple}
use Rattle.raft_pipes.specs.Folder.{LeavesOtherFiles, readable_queue}
use Rattle.raft_pipes.specs.Queue.{NamesLog}
use Rattle.raft_queues.specs.PassedOver.{LeavesPassedOver}
use Rattle.raft_log_engine.specs.Engine.{contents_of, directory_of, durable_of, folders_of, has_failed, has_groups_together, is_known_in, refusals_of, unsynced_of}
use Rattle.raft_log_engine.specs.Opening.{FoundCompletedRecords, IsClosedIn}
use Rattle.raft_log_engine.specs.declared.engine.Engine.{Engine}
use Rattle.raft_c_log.specs.Refusals.{IsRefusalFor}

module _ {F H R W : Type 0} {g : Ghosts F H R W} where
  -- a close fails with a fault of this code, and a crash leaves what it could leave before
  pub record IsCloseRefused (code : ℤ) (e : Engine F H R W g) (files : F) : Type 0 where
    pub fails : Fault
    pub code_is : code ≡ pos (fault_code fails)
    pub cause : IsRefusalFor (has_failed e) (FailsCountedAt (NamesLog (folders_of e))
        (refusals_of e)
        (g.refusals_of files)) fails
    pub keeps : RecoversContents (folders_of e) (durable_of e) (unsynced_of e) (g.directory files)

  -- an engine was closed with this code, and these files are left; code 11: it had failed
  pub record IsClosedAs (code : ℤ) (e : Engine F H R W g) (files : F) : Type 0 where
    pub ok :
        code ≡ pos 0 → IsClosedIn (folders_of e) (contents_of e) (is_known_in e)
        (g.directory files)
    pub err : (code ≡ pos 0 → ⊥) → IsCloseRefused code e files
    pub failed : (code ≡ pos 11) ↔ (has_failed e ≡ true)
    -- a crash leaves what it could leave before
    pub any_moment : MovesBy g.directory g.moments g.refusals_of (λ _. LeavesAllowed (folders_of e)
        (durable_of e) (unsynced_of e)) e.log.store.file_system files
    -- facts about atomic groups and about records of failed calls are found again
    pub together : code ≡ pos 0 → has_groups_together e ≡ true
        → do_groups_ascend (readable_queue Rewrite (folders_of e) (g.directory files)) ≡ true
    pub completed : code ≡ pos 0 → FoundCompletedRecords e
        → ReadCompletedRecordsIfSimple (folders_of e) (g.directory files)
    pub unchanged : has_failed e ≡ true
        → OnlyReads g.directory g.moments g.refusals_of e.log.store.file_system files
    pub others : LeavesOtherFiles (folders_of e) (directory_of e) (g.directory files)
    pub passed : LeavesPassedOver e.log.store.pipes (directory_of e) (g.directory files)
