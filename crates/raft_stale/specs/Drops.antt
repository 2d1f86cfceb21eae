-- What a call that drops what is stale makes of the log, and leaves of the queues' files.
use Rattle.std.specs.Prelude.{◌≡◌, ◌+◌, ◌<◌, ◌≤◌, ℕ, IfErr, IfOk, List, None, OnErr, OnOk, Option, Result, max, suc}
use Rattle.raft_base.specs.declared.errors.Fault.{Fault}
use Rattle.raft_base.specs.declared.pipe_log.LogQueue.{LogQueue}
use Rattle.raft_base.specs.declared.pipe_log.LogQueue.TheVariants.{Append}
use Rattle.raft_env.specs.declared.env.FileSystem.{Ghosts as FsGhosts}
use Rattle.raft_listeners.specs.declared.event_sink.EventSink.{Ghosts}
use Rattle.raft_listeners.specs.declared.purge_events.PurgeEvents.{PurgeEvents}
use Rattle.raft_pipes.specs.PipeState.{PipeState, last_seq}
use Rattle.raft_queues.specs.Dual.{DualState, IsDualReadRefusal, KeepsOtherPipe, StandSideBySide, pipe_of}
use Rattle.raft_index_laws.specs.Standing.{OwesNothing}
use Rattle.raft_tables.specs.FirstFiles.{first_of_tables}
use Rattle.raft_tables.specs.Owed.{Owed}
use Rattle.raft_tables.specs.Tables.{tables_of}
use Rattle.raft_tables.specs.declared.memtables.MemTables.{MemTables}
use Rattle.raft_crash_laws.specs.Index.{LogIndex}
use Rattle.raft_crash_laws.specs.Log.{KnownGroups}
use Rattle.raft_purge_steps.specs.Cut.{KeepsCut}
use Rattle.raft_purge_steps.specs.Faults.{HaveOwedNoRecord, IsPurgeRefusal}
use Rattle.raft_purge_steps.specs.Keeping.{KeepsRewriting, StillHolds}
use Rattle.raft_purge_steps.specs.Scope.{AreAllEmptied}
use Rattle.raft_purge_steps.specs.Steps.{by_groups}
use Rattle.raft_purge_steps.specs.Store.{IsIntact, files_of, refusals_in}
use Rattle.raft_purge_steps.specs.declared.fault.StepFault.{StepFault}
use Rattle.raft_purge_steps.specs.declared.log_store.LogStore.{LogStore}
use Rattle.raft_stale.specs.Dropping.{IfFails, KeepsFront}
use Rattle.raft_stale.specs.Scope.{HasLostFront, first_left, up_to_barrier}

-- some of a queue's first files go: how many. It ends with the same file, and `Begins` says where
-- it begins; the other queue's pipe is the same
pub record LosesFiles {E : Type 0} (queue : LogQueue) (Begins : PipeState → PipeState → Type 0)
    (result : Result ℕ E) (d d' : DualState) : Type 0 where
  pub others : KeepsOtherPipe queue d d'
  pub value : IfOk result (λ count. (pipe_of queue d).first + count ≡ (pipe_of queue d').first)
  pub first : Begins (pipe_of queue d) (pipe_of queue d')
  pub last : last_seq (pipe_of queue d') ≡ last_seq (pipe_of queue d)

-- the Append queue ends with the same file. It begins with the first one in which something stands,
-- or with the barrier if that comes before, or where it began if that is later; so behind files in
-- which nothing may move
pub record HasFrontLeft (barrier : Option ℕ) (m : MemTables) (p p' : PipeState) : Type 0 where
  pub span : p'.first ≡ first_left barrier p m
  pub last : last_seq p' ≡ last_seq p
  pub emptied :
      (watermark : ℕ) → watermark < last_seq p → AreAllEmptied watermark (tables_of m)
      → up_to_barrier barrier (suc watermark) ≤ p'.first

-- the Append queue went on to a next file, and begins with the first one in which something stands,
-- or where it began if that is later; no mark is owed
pub record HasPurgedFront (m : MemTables) (owed' : Owed) (p p' : PipeState) : Type 0 where
  pub span : p'.first ≡ max p.first (first_of_tables Append (suc (last_seq p)) m)
  pub rotated : last_seq p' ≡ suc (last_seq p)
  pub owed : OwesNothing owed'

module _ {F H R W : Type 0} (fs : FsGhosts F H R W) where
  -- LosesFiles of synced queues; pipes and files match after an Err too
  pub record LosesSynced (queue : LogQueue) (Begins : PipeState → PipeState → Type 0)
      (result : Result ℕ Fault) (s s' : LogStore F H R W) : Type 0 where
    pub files : LosesFiles queue Begins result s.pipes s'.pipes
    pub side : IsIntact fs s'
    pub cause : IfErr result (IsDualReadRefusal s.pipes (refusals_in fs s) (refusals_in fs s'))

  -- marks that are owed are written to the Rewrite queue: the log is kept, whichever of these stand
  -- for it in memory. Where that fails as many are owed as before
  pub record WritesMarks {T X L : Type 0} {g : Ghosts L} (result : Result T StepFault)
      (i i' : X → LogIndex) (owed owed' : Owed) (s s' : LogStore F H R W)
      (events events' : PurgeEvents L g) : Type 0 where
    pub log : StillHolds fs.directory fs.moments fs.refusals_of result i i' s.pipes s'.pipes
        s.file_system s'.file_system events events'
    pub keeps : KeepsRewriting result s.pipes s'.pipes events events'
    pub cut : OnOk result (KeepsCut events events')
    pub err : OnErr result (owed' ≡ owed)

  -- files of a queue in which nothing stands are dropped: how many; where the log is in doubt it
  -- begins as before. The log is kept, whichever of these stand for it in memory, and the batches
  -- that were written are cut. `IsUnfit` says why one can't be written
  pub record Drops {X L : Type 0} {g : Ghosts L} (queue : LogQueue) (IsUnfit : Fault → Type 0)
      (result : Result ℕ StepFault) (i i' : X → LogIndex) (s s' : LogStore F H R W)
      (events events' : PurgeEvents L g) : Type 0 where
    pub log : StillHolds fs.directory fs.moments fs.refusals_of result i i' s.pipes s'.pipes
        s.file_system s'.file_system events events'
    pub value : IfOk result (λ count. (pipe_of queue s.pipes).first + count
        ≡ (pipe_of queue s'.pipes).first)
    pub front : IfFails result (KeepsFront queue s.pipes s'.pipes)
    pub cut : OnOk result (KeepsCut events events')
    pub cause : IfErr result (IsPurgeRefusal s.pipes s'.pipes (files_of fs s')
        (refusals_in fs s) (refusals_in fs s') IsUnfit)

  -- a purge of the Append queue after a rotation: all owed marks are written, and no needed file is
  -- dropped, also after an Err
  pub record PurgesFront {X L : Type 0} {g : Ghosts L} (m : MemTables) (known : X → KnownGroups)
      (result : Result ℕ StepFault) (owed owed' : Owed) (s s' : LogStore F H R W)
      (events events' : PurgeEvents L g) : Type 0 where
    pub drops : Drops Append (HaveOwedNoRecord (tables_of m) owed) result
        (λ x. by_groups (tables_of m) owed (known x)) (λ x. by_groups (tables_of m) owed' (known x))
        s s' events events'
    pub files : OnOk result (HasPurgedFront m owed' s.pipes.append s'.pipes.append)
    pub first : HasLostFront None m s.pipes.append s'.pipes.append
