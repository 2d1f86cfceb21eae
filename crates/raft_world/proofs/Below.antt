-- What the crates below prove, as the lemmas here take it.
use Rattle.std.specs.Prelude.{◌≡◌, ◌≢◌, ℕ, List, []}
use Rattle.raft_base.specs.declared.pipe_log.LogQueue.{LogQueue}
use Rattle.raft_records.specs.Contents.{Contents, no_contents}
use Rattle.raft_records.specs.Item.{Batch}
use Rattle.raft_env.specs.Directory.{Directory, IsRestarted, CrashImage}
use Rattle.raft_config.specs.Folders.{Folders}
use Rattle.raft_config.specs.declared.config.RecoveryMode.{RecoveryMode}
use Rattle.raft_config.specs.declared.config.RecoveryMode.TheVariants.{AbsoluteConsistency}
use Rattle.raft_files.specs.Records.{as_it_is}
use Rattle.raft_once.specs.History.{Act, ActedOnce, MayAllAct, acted_after}
use Rattle.raft_pipes.specs.Counts.{QueueCounts}
use Rattle.raft_pipes.specs.Folder.{AreClear, HasNoLog, LeavesOtherFiles, LeavesOtherQueue, readable_queue}
use Rattle.raft_pipes.specs.Queue.{RecoversPrefixOf}
use Rattle.raft_crash_laws.specs.Contents.{contents_at}
use Rattle.raft_crash_laws.specs.Crash.{IsAllowedFrom, LeavesAllowed, RecoversContents, contents_after_crash, left_of_queue}
use Rattle.raft_crash_laws.specs.Queues.{AreDetectableIn, AreOpenableIn, AreSingleIn, AreSoundIn}

-- raft_queue_laws' law queues_stand_side_by_side, clause `recovers`
abbrev pub BesideLaw : Type 0
BesideLaw = (changed other : LogQueue) → other ≢ changed → (folders : Folders) (old n : Directory)
    → LeavesOtherFiles folders old n → LeavesOtherQueue changed folders old n
    → (batches : List Batch) (counts : QueueCounts)
    → RecoversPrefixOf other folders batches counts old
    → RecoversPrefixOf other folders batches counts n

-- clauses of raft_log_engine's law crash_leaves_contents, and `beside`
pub record CrashLaws : Type 0 where
  pub left : (folders : Folders) (m : Contents) (batches : List Batch) (n : Directory)
      → RecoversContents folders m batches n → LeavesAllowed folders m batches n
  pub restarted : (folders : Folders) (n m : Directory) (d : CrashImage) → IsRestarted n d m
      → AreSoundIn folders n d
      → RecoversContents folders (contents_after_crash folders n d) [] m
  pub found : (folders : Folders) (n m : Directory) (d : CrashImage) → IsRestarted n d m
      → contents_at folders m ≡ contents_after_crash folders n d
  pub opens : (folders : Folders) (n m : Directory) (d : CrashImage) → IsRestarted n d m
      → AreSoundIn folders n d → (mode : RecoveryMode) → (mode ≡ AbsoluteConsistency → ⊥)
      → AreOpenableIn mode folders m
  pub as_they_are : (folders : Folders) (m : Contents) (batches : List Batch) (n : Directory)
      → RecoversContents folders m batches n → AreDetectableIn folders n (as_it_is n)
      → IsAllowedFrom 0 m batches (contents_at folders n) × ((mode : RecoveryMode)
      → (mode ≡ AbsoluteConsistency → ⊥) → AreOpenableIn mode folders n)
  pub none : (folders : Folders) (n : Directory) → HasNoLog folders n → AreClear folders n
      → (contents_at folders n ≡ no_contents) × RecoversContents folders no_contents [] n
  pub clear : (folders : Folders) (m : Contents) (batches : List Batch) (n : Directory)
      → RecoversContents folders m batches n → AreClear folders n
  pub single : (folders : Folders) (m : Contents) (batches : List Batch) (n : Directory)
      → RecoversContents folders m batches n → AreSingleIn folders n
  pub beside : BesideLaw

-- raft_once's law a_number_acts_once, clause `once`
abbrev pub OnceLaw : Type 0
OnceLaw = (m : Contents) (group : ℕ) (acts : List Act) → MayAllAct m acts
    → ActedOnce (acted_after group [] acts)

-- raft_queue_laws' law crash_leaves_a_prefix, clause `contents`
abbrev pub LeftIsRead : Type 0
LeftIsRead = (queue : LogQueue) (folders : Folders) (n m : Directory) (d : CrashImage)
    → IsRestarted n d m → readable_queue queue folders m ≡ left_of_queue queue folders n d
