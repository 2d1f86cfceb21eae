-- Why an opening fails of a log that can be opened: storage, or memory.
use Rattle.std.proofs.Common.{◌≡◌, Bool, true, false, ℕ, List, [], ◌∷◌, Some, None, inl, inr, sym, ap, ◌∙◌}
use Rattle.std.proofs.Props.{props}
use Rattle.std.proofs.Math.Logic.{∥∥₁_elim}
use Rattle.raft_base.specs.declared.errors.Fault.{Fault}
use Rattle.raft_base.specs.declared.errors.Fault.TheVariants as fault
use Rattle.raft_base.specs.declared.pipe_log.FileId.{FileId}
use Rattle.raft_base.specs.declared.pipe_log.LogQueue.{LogQueue}
use Rattle.raft_env.specs.Directory.{Directory, Path}
use Rattle.raft_env.specs.Refusal.{FailsAt, Refusals}
use Rattle.raft_config.specs.Folders.{Folders, all_of}
use Rattle.raft_config.specs.Recovery.{tolerates_corruption}
use Rattle.raft_config.specs.declared.config.RecoveryMode.{RecoveryMode}
use Rattle.raft_files.specs.Records.{as_it_is}
use Rattle.raft_files.specs.Writer.{bytes_at}
use Rattle.raft_pipes.specs.Files.{EachFile, IsOpenableFile, is_last}
use Rattle.raft_pipes.specs.Folder.{AreClear, HasNoLog, log_files_of}
use Rattle.raft_pipes.specs.LogFile.{IsOpenableLog}
use Rattle.raft_pipes.specs.Numbered.{in_queue}
use Rattle.raft_pipes.specs.Queue.{IsOpenableOf}
use Rattle.raft_opening.specs.Files.{HasDamageAmong}
use Rattle.raft_opening.specs.LogFile.{IsDamage}
use Rattle.raft_opening.specs.Queue.{HasDamageOf, IsOpenRefusalOf}
use Rattle.raft_crash_laws.specs.Queues.{AreDetectableIn, AreOpenableIn, AreSingleIn, IsOpeningRefusal}
use Rattle.raft_pipes.specs.QueueFiles.{last_kept, last_of}
use Rattle.raft_pipes.proofs.FolderQueueLemmas.{log_files-no_log}

-- bytes that can be opened aren't damaged
not_damaged : (id : FileId) (is_tolerant : Bool) (bytes : List ℕ) (e : Fault) → IsOpenableLog id is_tolerant bytes → IsDamage id is_tolerant bytes e → ⊥
not_damaged id is_tolerant bytes fault.Corruption openable damage = damage.1 openable
not_damaged id is_tolerant bytes fault.Range openable damage = let clash : false ≡ true = sym damage ∙ openable.places in absurd cc
not_damaged id is_tolerant bytes fault.Lz4 openable damage = openable.unmarked damage.read damage.is_read damage.marked
not_damaged id is_tolerant bytes _ openable damage = damage

none_damaged : (mode : RecoveryMode) (queue : LogQueue) (bytes : Path → List ℕ) (files : List (ℕ × Path)) (e : Fault) → EachFile (IsOpenableFile mode queue bytes) files → HasDamageAmong mode queue bytes files e → ⊥
none_damaged mode queue bytes [] e openable damage = damage
none_damaged mode queue bytes (f ∷ files) e openable (inl damage) = not_damaged (in_queue queue f.0) (tolerates_corruption mode (is_last files)) (bytes f.1) e openable.0 damage
none_damaged mode queue bytes (f ∷ files) e openable (inr damage) = none_damaged mode queue bytes files e openable.1 damage.1

undamaged : (queue : LogQueue) (mode : RecoveryMode) (folders : Folders) (n : Directory) (e : Fault) → IsOpenableOf queue mode folders n → HasDamageOf queue mode folders n e → ⊥
undamaged queue mode folders n e = none_damaged mode queue (λ path. bytes_at path n) (log_files_of queue folders n) e

-- where the log can be opened, no folder's place is taken and no number stands in both folders, an opening fails
-- by storage, which counts it, or for lack of memory
pub refused_outside : (mode : RecoveryMode) (folders : Folders) (n : Directory) (old new : Refusals) (e : Fault) → IsOpeningRefusal mode folders n old new e → AreOpenableIn mode folders n → AreClear folders n → AreSingleIn folders n → FailsAt (λ _. Unit {0}) old new e
refused_outside mode folders n old new e (queue, refused) openable clear single = by_fault e refused
  where
    by_fault : (e : Fault) → IsOpenRefusalOf queue mode folders n old new e → FailsAt (λ _. Unit {0}) old new e
    by_fault (fault.InvalidArgument text) (inl taken) = absurd (clear taken)
    by_fault (fault.InvalidArgument text) (inr twice) = absurd (∥∥₁_elim (single queue) (hlevel props) twice)
    by_fault fault.Corruption refused = absurd (undamaged queue mode folders n fault.Corruption (openable queue) refused)
    by_fault fault.Range refused = absurd (undamaged queue mode folders n fault.Range (openable queue) refused)
    by_fault fault.Lz4 refused = absurd (undamaged queue mode folders n fault.Lz4 (openable queue) refused)
    by_fault (fault.Io kind text) refused = (refused.0, tt)
    by_fault fault.Memory refused = tt
    by_fault _ refused = absurd refused

-- where no log file stands nothing is damaged
pub no_log_detectable : (folders : Folders) (n : Directory) → HasNoLog folders n → AreDetectableIn folders n (as_it_is n)
no_log_detectable folders n none queue file last =
    let nothing : last_kept (all_of folders) queue n ≡ None = ap last_of (log_files-no_log queue folders n none) in
    let clash : None ≡ Some file = sym nothing ∙ last in absurd cc
