-- What openings show of files that crashes left.
use Rattle.std.proofs.Common.{◌≡◌, ◌∙◌, ◌⊎◌, ℕ, None, List, ap, subst}
use Rattle.std.specs.Prelude.{IfErr, IfOk, Option, Result}
use Rattle.raft_base.specs.declared.errors.Fault.{Fault}
use Rattle.raft_config.proofs.ConfigLemmas.{contradiction-copy, same_contradiction}
use Rattle.raft_config.specs.Config.{IsCopy}
use Rattle.raft_config.specs.Folders.{folders_in}
use Rattle.raft_config.specs.Sanitized.{IsContradiction, contradiction}
use Rattle.raft_config.specs.declared.config.Config.{Config}
use Rattle.raft_crash_laws.specs.Contents.{contents_at}
use Rattle.raft_crash_laws.specs.Queues.{AreOpenableIn, AreSingleIn}
use Rattle.raft_config.specs.declared.config.RecoveryMode.{RecoveryMode}
use Rattle.raft_config.specs.declared.config.RecoveryMode.TheVariants.{AbsoluteConsistency}
use Rattle.raft_env.specs.Directory.{Directory}
use Rattle.raft_env.specs.declared.env.FileSystem.{Ghosts}
use Rattle.raft_config.specs.Folders.{Folders}
use Rattle.raft_log_engine.specs.Image.{IsImageOf}
use Rattle.raft_once.specs.Numbers.{shown}
use Rattle.raft_log_engine.specs.declared.engine.image.Image.{Image}
use Rattle.raft_memory.specs.Choice.{left_by}
use Rattle.raft_memory.specs.Memory.{memory_directory, memory_moments, memory_refusals}
use Rattle.raft_memory.specs.declared.crash.Choice.{Choice}
use Rattle.raft_memory.specs.declared.memory.MemoryFileSystem.{MemoryFileSystem}
use Rattle.raft_pipes.specs.Folder.{AreClear}
use Rattle.raft_script.proofs.TrialLemmas.{clear_restarted, image_same, opened_log, opened_outside, reopens_same, same_folders, single_restarted}
use Rattle.raft_script.specs.Failure.{IsStorageOrMemory}
use Rattle.raft_script.specs.Trial.{AreDetectablyLeft, HaveNoLogPath, IsCrashOf, IsLogRefusal, IsOpenedAs, IsOpeningOf, Ran, Reopens}
use Rattle.raft_script.specs.declared.operation.Op.{Op}

-- an opening in each mode but the absolute one takes these files
pub record OpensTolerantly (folders : Folders) (n : Directory) : Type 0 where
  pub clear : AreClear folders n
  pub single : AreSingleIn folders n
  pub openable : (mode : RecoveryMode) → (mode ≡ AbsoluteConsistency → ⊥) → AreOpenableIn mode folders n

-- after a crash
module _ {H R W : Type 0} (g : Ghosts MemoryFileSystem H R W) (config : Config) (ops : List Op) (stop : Option ℕ) (choices : List Choice) (ran : Ran) (left : MemoryFileSystem) (crash : IsCrashOf g config ops stop choices ran left) (same : g.directory crash.last ≡ memory_directory crash.last) where
  -- whatever the damage, no folder's place is taken, and no number stands in both
  pub crash_clear : HaveNoLogPath (folders_in config) → AreClear (folders_in config) (memory_directory left)
  crash_clear free =
      let files = memory_directory crash.last in
      clear_restarted (folders_in config) files (memory_directory left) (left_by choices files) crash.restarted (subst (AreClear (folders_in config)) same (crash.runs.runs free).clear)

  pub crash_single : HaveNoLogPath (folders_in config) → AreSingleIn (folders_in config) (memory_directory left)
  crash_single free =
      let files = memory_directory crash.last in
      single_restarted (folders_in config) files (memory_directory left) (left_by choices files) crash.restarted (subst (AreSingleIn (folders_in config)) same (crash.runs.runs free).single)

  -- and if it is detectable, a tolerant opening takes what is left
  pub crash_opens : HaveNoLogPath (folders_in config) → AreDetectablyLeft (folders_in config) crash.last choices → OpensTolerantly (folders_in config) (memory_directory left)
  crash_opens free detectable = record { clear = crash_clear free; single = crash_single free; openable = crash.opens free detectable }

-- an opening with a copy of the settings
pub opening_shown : {H R W : Type 0} (g : Ghosts MemoryFileSystem H R W) (P Q : Type 0) (config copy : Config) (files last : MemoryFileSystem) (opened : Result Image Fault) → IsCopy config copy → let n = memory_directory files in
    (HaveNoLogPath (folders_in config) → Q → P → OpensTolerantly (folders_in config) n)
    → (HaveNoLogPath (folders_in config) → Q → AreClear (folders_in config) n × AreSingleIn (folders_in config) n)
    → Reopens memory_directory memory_moments memory_refusals (folders_in copy) files last opened
    → IfOk opened (λ image. IsImageOf image.groups.items (shown (contents_at (folders_in copy) n)))
    → (contradiction copy ≡ None → IfErr opened (λ e. AreOpenableIn copy.recovery_mode (folders_in copy) n → AreClear (folders_in copy) n → AreSingleIn (folders_in copy) n → IsStorageOrMemory e))
    → IfErr opened (λ e. AreClear (folders_in copy) n → AreSingleIn (folders_in copy) n → IsContradiction copy e ⊎ IsLogRefusal copy.recovery_mode (folders_in copy) n e)
    → IsOpenedAs g copy files opened
    → IsOpeningOf g P Q config files last opened
opening_shown g P Q config copy files last opened is opens stands reopened value refused cause told =
    let dir = folders_in config in
    let n = memory_directory files in
    let copied : contradiction copy ≡ contradiction config = contradiction-copy config copy is in
    let same : folders_in copy ≡ dir = same_folders config copy is in
    let mode_is : copy.recovery_mode ≡ config.recovery_mode = ap (λ (x : Config). x.recovery_mode) is.others in
    record {
      copy = copy;
      is = is;
      opens = told;
      reopened = reopens_same (folders_in copy) dir files last opened same reopened;
      found = image_same (folders_in copy) dir n opened same value;
      refused = λ free before detectable tolerant fine.
          let takes = opens free before detectable in
          opened_outside config.recovery_mode copy.recovery_mode dir (folders_in copy) n opened mode_is same (takes.openable config.recovery_mode tolerant) takes.clear takes.single (refused (copied ∙ fine));
      cause = λ free before. opened_log (IsContradiction config) (IsContradiction copy) config.recovery_mode copy.recovery_mode dir (folders_in copy) n opened (λ e no. same_contradiction config copy e copied no) mode_is same
          (stands free before).0 (stands free before).1 cause;
    }
