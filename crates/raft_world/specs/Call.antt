-- What a call makes of an engine. The law only assumes this, and each call ensures it: so a reader
-- of the law may skip it.
use Rattle.std.specs.Prelude.{◌≡◌, ◌⊎◌, true, false, Bool, List, []}
use Rattle.raft_records.specs.Contents.{Contents}
use Rattle.raft_records.specs.Item.{Batch}
use Rattle.raft_env.specs.Moments.{HoldsThroughout}
use Rattle.raft_env.specs.declared.env.FileSystem.{Ghosts}
use Rattle.raft_once.specs.History.{Act, MayAllAct, are_written}
use Rattle.raft_crash_laws.specs.Contents.{contents_at}
use Rattle.raft_crash_laws.specs.Crash.{LeavesAllowed, RecoversContents}
use Rattle.raft_crash_laws.specs.Queues.{AreOpenableIn}
use Rattle.raft_config.specs.declared.config.RecoveryMode.{RecoveryMode}
use Rattle.raft_log_engine.specs.Durability.{Progresses, durability_of}
use Rattle.raft_log_engine.specs.Engine.{IsAllSynced, contents_of, directory_of, durable_of, folders_of, found_of, has_failed, moments_of, unsynced_of}
use Rattle.raft_log_engine.specs.Group.{LeavesChoice, chosen_of}
use Rattle.raft_log_engine.specs.declared.engine.Engine.{Engine}
use Rattle.raft_world.specs.Ledger.{Effect}

-- batches that may be written in turn: each number exceeds the one that its group keeps then
abbrev pub MayFollow : Contents → List Batch → Type 0
MayFollow m batches = ∥ ((acts : List Act) × (are_written acts ≡ batches) × MayAllAct m acts) ∥₁

module _ {F H R W : Type 0} {g : Ghosts F H R W} where
  -- a call with this effect makes one engine of the other
  pub record HasEffect (effect : Effect) (old new : Engine F H R W g) : Type 0 where
    pub folders : folders_of new ≡ folders_of old
    -- what its opening found
    pub found : found_of new ≡ found_of old
    -- which of its batches are in flight if the engine fails in it
    pub written : List Bool
    pub progress : Progresses effect.accepts effect.syncs
        (chosen_of (contents_of old) written effect.writes) (durability_of old) (durability_of new)
    -- what a crash inside the call leaves
    pub any_moment : has_failed old ≡ false → HoldsThroughout (moments_of old) (moments_of new)
        (directory_of new) (LeavesChoice (folders_of old) (durable_of old) (unsynced_of old)
        (contents_of old) effect.writes)
    -- a failed engine accepts nothing and changes no file
    pub rests : has_failed old ≡ true → (has_failed new ≡ true)
        × (directory_of new ≡ directory_of old) × (moments_of new ≡ moments_of old)
    -- numbers
    pub numbers : has_failed old ≡ false → MayFollow (contents_of old) effect.accepts
    pub flights : has_failed old ≡ false → (written : List Bool)
        → MayFollow (contents_of old) (chosen_of (contents_of old) written effect.writes)

  -- a close that returns `Ok`
  pub record Closes (old : Engine F H R W g) (files : F) : Type 0 where
    pub stood : has_failed old ≡ false
    pub contents : contents_at (folders_of old) (g.directory files) ≡ contents_of old
    pub keeps : RecoversContents (folders_of old) (contents_of old) [] (g.directory files)
    pub openable : (mode : RecoveryMode) → AreOpenableIn mode (folders_of old) (g.directory files)

  -- a reopening that returns `Ok`
  pub record Reopens (old new : Engine F H R W g) : Type 0 where
    pub folders : folders_of new ≡ folders_of old
    pub stood : has_failed old ≡ false
    pub stands : has_failed new ≡ false
    pub synced : IsAllSynced new
    pub contents : contents_of new ≡ contents_of old

  -- an engine was given up, or a close or a reopening failed, and these files are left
  pub record GivesUp (old : Engine F H R W g) (files : F) : Type 0 where
    pub keeps : RecoversContents (folders_of old) (durable_of old) (unsynced_of old)
        (g.directory files) ⊎ ((has_failed old ≡ false)
        × RecoversContents (folders_of old) (contents_of old) [] (g.directory files))

  -- a close or a reopening, whatever it returns, leaves these files
  pub record Ends (old : Engine F H R W g) (files : F) : Type 0 where
    pub any_moment : HoldsThroughout (moments_of old) (g.moments files) (g.directory files)
        (LeavesAllowed (folders_of old) (durable_of old) (unsynced_of old))
