-- The files of both queues, as an opening reads them.
use Rattle.std.specs.Prelude.{◌⊎◌, ℕ, List, [], map}
use Rattle.std.specs.List.{AllByRecursion, AllZip}
use Rattle.raft_base.specs.declared.errors.Fault.{Fault}
use Rattle.raft_base.specs.declared.pipe_log.LogQueue.{LogQueue}
use Rattle.raft_config.specs.declared.config.RecoveryMode.{RecoveryMode}
use Rattle.raft_env.specs.Directory.{Directory, Path}
use Rattle.raft_env.specs.Refusal.{Refusals}
use Rattle.raft_files.specs.Writer.{bytes_at}
use Rattle.raft_pipes.specs.ByFile.{numbered_of}
use Rattle.raft_opening.specs.Files.{AreReplaysOf, HasDamageAmong, HaveBlocks, IsFilesRefusal}
use Rattle.raft_pipes.specs.Files.{EachFile, IsOpenableFile}
use Rattle.raft_opening.specs.OpenedLogs.{AreInQueue, HaveLogBlocks, IsOpenableIn, IsReplayIn, OpenedLogState, logged_batches}
use Rattle.raft_opening.specs.declared.replay.ReplayedLog.{ReplayedLog}
use Rattle.raft_records.specs.FileBatches.{FileBatch}
use Rattle.raft_records.specs.Places.{Blocks}

-- these files can be opened, and the machine stands for what can be read of them
pub record AreLogsRead {M : Type 0}
    (stands_for : LogQueue → Blocks → List FileBatch → M → List FileBatch → Type 0)
    (queue : LogQueue) (n : Directory) (logs : List OpenedLogState) (machine : M)
    (replayed : List ReplayedLog) : Type 0 where
  pub openable : AllByRecursion (IsOpenableIn n) logs
  pub replays : AllZip (IsReplayIn n) logs replayed
  pub stands : (blocks : Blocks) → AreInQueue queue logs → HaveLogBlocks n logs blocks
      → stands_for queue blocks [] machine (logged_batches n logs)

-- AreLogsRead, of the files of a queue
pub record IsQueueRead {M : Type 0}
    (stands_for : LogQueue → Blocks → List FileBatch → M → List FileBatch → Type 0)
    (mode : RecoveryMode) (queue : LogQueue) (n : Directory) (files : List (ℕ × Path))
    (machine : M) (replayed : List ReplayedLog) : Type 0 where
  pub openable : EachFile (IsOpenableFile mode queue (λ path. bytes_at path n)) files
  pub replays : AreReplaysOf queue n files replayed
  pub stands : (blocks : Blocks) → HaveBlocks queue n files blocks
      → stands_for queue blocks [] machine (numbered_of queue n files)

-- the files of a queue are refused: for lack of memory, by a call on one of them, or for damage
abbrev pub IsQueueFault : RecoveryMode → LogQueue → Directory → List (ℕ × Path) → Refusals
    → Refusals → Fault → Type 0
IsQueueFault mode queue n files before after e =
    IsFilesRefusal (map (λ f. f.1) files) before after e
    ⊎ HasDamageAmong mode queue (λ path. bytes_at path n) files e
