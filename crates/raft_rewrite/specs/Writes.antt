-- What a record of the Rewrite queue does to the log, and to its batch.
use Rattle.std.specs.Prelude.{◌≡◌, ◌∷◌, IfErr, IfOk, [], OnErr, OnOk, Result}
use Rattle.raft_base.specs.declared.errors.Fault.{Fault}
use Rattle.raft_base.specs.declared.pipe_log.FileBlockHandle.{FileBlockHandle}
use Rattle.raft_env.specs.Directory.{Directory}
use Rattle.raft_env.specs.declared.env.FileSystem.{Ghosts as FsGhosts}
use Rattle.raft_listeners.specs.Telling.{written_in}
use Rattle.raft_listeners.specs.declared.event_sink.EventSink.{Ghosts}
use Rattle.raft_listeners.specs.declared.purge_events.PurgeEvents.{PurgeEvents}
use Rattle.raft_queues.specs.Dual.{DualState, StandSideBySide}
use Rattle.raft_records.specs.Item.{Batch}
use Rattle.raft_purge_steps.specs.Faults.{IsPurgeRefusal}
use Rattle.raft_purge_steps.specs.Keeping.{KeepsRewriting}
use Rattle.raft_purge_steps.specs.Steps.{IfStands, KeepsEachLog, KeepsLogTaking}
use Rattle.raft_purge_steps.specs.Store.{Moves, RefusedBy, files_of}
use Rattle.raft_purge_steps.specs.declared.fault.StepFault.{StepFault}
use Rattle.raft_purge_steps.specs.declared.log_store.LogStore.{LogStore}
use Rattle.raft_rewrite.specs.OpenGroup.{IsWrittenAt}
use Rattle.raft_rewrite.specs.declared.rewriting.Rewriting.{Rewriting}

-- the batch is empty after `Ok`, and as before after `Err`; the watermark is the same
pub record Drains {T : Type 0} (result : Result T StepFault) (r r' : Rewriting) : Type 0 where
  pub emptied : OnOk result (r'.batch.items ≡ [])
  pub kept : OnErr result (r'.batch.items ≡ r.batch.items)
  pub watermark : r'.watermark ≡ r.watermark

-- the Append queue's pipe is unchanged, and after `Stands` the log is kept under each index
pub record LeavesLog {T L : Type 0} {g : Ghosts L} (result : Result T StepFault) (d d' : DualState)
    (n n' : Directory) (events events' : PurgeEvents L g) : Type 0 where
  pub keeps : KeepsRewriting result d d' events events'
  pub err : OnErr result (IfStands result (KeepsEachLog d d' n n'))
  pub side : IfStands result (StandSideBySide d' n')

module _ {F H R W : Type 0} (fs : FsGhosts F H R W) where
  -- the batch is at the end of the Rewrite queue; a crash inside finds what the log held
  pub record WritesBatch {L : Type 0} {g : Ghosts L} (result : Result FileBlockHandle StepFault)
      (batch : Batch) (IsUnfit : Fault → Type 0) (s s' : LogStore F H R W)
      (events events' : PurgeEvents L g) : Type 0 where
    pub now : IfOk result (IsWrittenAt batch s.pipes s'.pipes (files_of fs s) (files_of fs s'))
    pub written : OnOk result (written_in events' ≡ batch ∷ written_in events)
    pub log : LeavesLog result s.pipes s'.pipes (files_of fs s) (files_of fs s') events events'
    pub any_moment : Moves fs (KeepsLogTaking batch s.pipes) s s'
    pub cause : IfErr result (RefusedBy fs IsPurgeRefusal s s' IsUnfit)
