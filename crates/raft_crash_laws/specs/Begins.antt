-- What can be read first of both queues in the settings' folders, in contents.
use Rattle.std.specs.Prelude.{◌≡◌, ◌≤◌, ℕ, ◌++◌, List, drop, length, take}
use Rattle.raft_base.specs.declared.pipe_log.LogQueue.{LogQueue}
use Rattle.raft_base.specs.declared.pipe_log.LogQueue.TheVariants.{Append, Rewrite}
use Rattle.raft_env.specs.Directory.{Directory}
use Rattle.raft_config.specs.Folders.{Folders}
use Rattle.raft_pipes.specs.Folder.{readable_queue}
use Rattle.raft_records.specs.Contents.{Contents, after_batches}
use Rattle.raft_records.specs.Item.{Batch}
use Rattle.raft_recovery_laws.specs.Recovered.{recovered}

-- what can be read of a queue in the folders begins with these batches
abbrev pub LogBeginsWith : LogQueue → Folders → List Batch → Directory → Type 0
LogBeginsWith queue folders batches n =
    ∥ ((later : List Batch) × (readable_queue queue folders n ≡ batches ++ later)) ∥₁

-- the first batches that can be read of both queues stand for these contents; behind them the Append
-- queue has these batches, and with them the log stands for what they leave
pub record BeginsWithContents (folders : Folders) (m : Contents) (since : List Batch) (n : Directory)
    : Type 0 where
  pub rewritten : List Batch
  pub appended : List Batch
  pub rewritten_begin : LogBeginsWith Rewrite folders rewritten n
  pub appended_begin : LogBeginsWith Append folders (appended ++ since) n
  pub stand : recovered rewritten appended ≡ m
  pub with_since : recovered rewritten (appended ++ since) ≡ after_batches m since

-- BeginsWithContents, where the first batches since the last successful sync may be synced already
abbrev pub LogStandsFor : Folders → Contents → List Batch → Directory → Type 0
LogStandsFor folders m since n = ∥ ((count : ℕ) × (count ≤ length since)
    × BeginsWithContents folders (after_batches m (take count since)) (drop count since) n) ∥₁
