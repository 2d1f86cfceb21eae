-- What a log's queues and files show, on a file system with these ghost members.
use Rattle.std.specs.Prelude.{Result}
use Rattle.raft_base.specs.declared.errors.Fault.{Fault}
use Rattle.raft_base.specs.declared.pipe_log.FileBlockHandle.{FileBlockHandle}
use Rattle.raft_base.specs.declared.pipe_log.LogQueue.{LogQueue}
use Rattle.raft_entry_blocks.specs.Cache.{HoldsBlockIn}
use Rattle.raft_entry_blocks.specs.Recent.{KeptBlocks}
use Rattle.raft_env.specs.Directory.{Directory}
use Rattle.raft_env.specs.Moments.{MovesBy}
use Rattle.raft_env.specs.Refusal.{Refusals}
use Rattle.raft_env.specs.declared.env.FileSystem.{Ghosts as FsGhosts}
use Rattle.raft_listeners.specs.declared.event_sink.EventSink.{Ghosts}
use Rattle.raft_listeners.specs.declared.purge_events.PurgeEvents.{PurgeEvents}
use Rattle.raft_queues.specs.Dual.{DualState, IsDualReadRefusal, StandSideBySide}
use Rattle.raft_crash_laws.specs.Index.{LogIndex}
use Rattle.raft_purge_steps.specs.Faults.{IsSyncRefusal}
use Rattle.raft_purge_steps.specs.Keeping.{StillHolds}
use Rattle.raft_purge_steps.specs.Rotates.{Rotates}
use Rattle.raft_purge_steps.specs.declared.fault.StepFault.{StepFault}
use Rattle.raft_purge_steps.specs.declared.log_store.LogStore.{LogStore}

module _ {F H R W : Type 0} (fs : FsGhosts F H R W) where
  -- the files of the store
  abbrev pub files_of : LogStore F H R W → Directory
  files_of s = fs.directory s.file_system

  -- how many calls of its file system have failed, and how
  abbrev pub refusals_in : LogStore F H R W → Refusals
  refusals_in s = fs.refusals_of s.file_system

  -- its pipes match its files: they have written the queues of some folders
  abbrev pub IsIntact : LogStore F H R W → Type 0
  IsIntact s = StandSideBySide s.pipes (files_of s)

  -- these blocks, where any is kept, are blocks of its files
  abbrev pub HoldsBlocks : LogStore F H R W → KeptBlocks → Type 0
  HoldsBlocks s kept = HoldsBlockIn s.pipes (files_of s) kept

  -- P holds at each moment of the call, of the files before it and those then; no count of failed
  -- calls falls
  abbrev pub Moves : (Directory → Directory → Type 0) → LogStore F H R W → LogStore F H R W → Type 0
  Moves P s s' = MovesBy fs.directory fs.moments fs.refusals_of P s.file_system s'.file_system

  -- a relation between pipes and files before and pipes and files after
  abbrev pub Between : (DualState → DualState → Directory → Directory → Type 0)
      → LogStore F H R W → LogStore F H R W → Type 0
  Between R s s' = R s.pipes s'.pipes (files_of s) (files_of s')

  -- the same, with the place of a record
  abbrev pub BetweenAt : (DualState → DualState → Directory → Directory → FileBlockHandle → Type 0)
      → LogStore F H R W → LogStore F H R W → FileBlockHandle → Type 0
  BetweenAt R s s' = R s.pipes s'.pipes (files_of s) (files_of s')

  -- the causes that a read of these pipes may fail with
  abbrev pub ReadRefused : DualState → F → F → Fault → Type 0
  ReadRefused d old new = IsDualReadRefusal d (fs.refusals_of old) (fs.refusals_of new)

  -- the causes that a sync of the Rewrite queue may fail with
  abbrev pub SyncRefused : LogStore F H R W → LogStore F H R W → StepFault → Type 0
  SyncRefused s s' =
      IsSyncRefusal s.pipes.rewrite s'.pipes.rewrite (refusals_in s) (refusals_in s')

  -- the causes that a call from the one store to the other may fail with
  abbrev pub RefusedBy : (DualState → DualState → Directory → Refusals → Refusals
      → (Fault → Type 0) → StepFault → Type 0)
      → LogStore F H R W → LogStore F H R W → (Fault → Type 0) → StepFault → Type 0
  RefusedBy Why s s' = Why s.pipes s'.pipes (files_of s') (refusals_in s) (refusals_in s')

  -- a queue goes on to its next file
  abbrev pub RotatesIn : {T : Type 0} → LogQueue → Result T StepFault → LogStore F H R W
      → LogStore F H R W → Type 0
  RotatesIn queue result s s' = Rotates fs.directory fs.moments fs.refusals_of queue result
      s.pipes s'.pipes s.file_system s'.file_system

  -- a call keeps the log, whichever of these are its index
  abbrev pub StillHoldsIn : {T X L : Type 0} → {g : Ghosts L} → Result T StepFault → (X → LogIndex)
      → (X → LogIndex) → LogStore F H R W → LogStore F H R W → PurgeEvents L g → PurgeEvents L g
      → Type 0
  StillHoldsIn result i i' s s' events events' = StillHolds fs.directory fs.moments
      fs.refusals_of result i i' s.pipes s'.pipes s.file_system s'.file_system events events'
