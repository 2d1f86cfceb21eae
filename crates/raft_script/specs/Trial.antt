-- What a trial shows.
use Rattle.std.specs.Prelude.{◌≡◌, ◌⊎◌, ℕ, Bool, Contains, true, List, [], ◌++◌, Option, Some, None, Result, Ok, Err, IfOk, IfErr}
use Rattle.raft_records.specs.Contents.{Contents, no_contents}
use Rattle.raft_tables.specs.Known.{known_in}
use Rattle.raft_base.specs.declared.errors.Fault.{Fault}
use Rattle.raft_memory.specs.Choice.{AreWhole, NameNoBytes, left_by}
use Rattle.raft_memory.specs.Memory.{armed_of, memory_directory, memory_moments, memory_refusals, no_files, stop_of}
use Rattle.raft_memory.specs.declared.memory.MemoryFileSystem.{MemoryFileSystem}
use Rattle.raft_env.specs.Consistent.{AreConsistent}
use Rattle.raft_env.specs.Directory.{CrashImage, Directory, IsRestarted, Leaves, Path, file_at}
use Rattle.raft_env.specs.Moments.{MovesBy}
use Rattle.raft_env.specs.Outcomes.{File}
use Rattle.raft_base.specs.declared.pipe_log.LogQueue.{LogQueue}
use Rattle.raft_queue_laws.specs.DetectableDamage.{EachAddsOnlyItsRecord, HaveNoStaleRecordIn, IsReadAsBefore}
use Rattle.raft_pipes.specs.Numbered.{in_queue}
use Rattle.raft_pipes.specs.QueueFiles.{last_kept}
use Rattle.raft_env.specs.Refusal.{Refusals, RoseBy, no_refusals}
use Rattle.raft_memory.specs.declared.crash.Choice.{Choice}
use Rattle.raft_crash_laws.specs.Contents.{contents_at}
use Rattle.raft_crash_laws.specs.Crash.{IsAllowedFrom, RecoversContents, StillRecovers}
use Rattle.raft_env.specs.declared.env.FileSystem.{Ghosts}
use Rattle.raft_log_engine.specs.Engine.{contents_of, directory_of, is_known_in, moments_of}
use Rattle.raft_log_engine.specs.Image.{IsImageOf}
use Rattle.raft_log_engine.specs.Opening.{Opens}
use Rattle.raft_log_engine.specs.declared.engine.Engine.{Engine}
use Rattle.raft_log_engine.specs.declared.engine.Refused.{Refused}
use Rattle.raft_once.specs.Numbers.{shown}
use Rattle.raft_log_engine.specs.declared.engine.image.Image.{Image}
use Rattle.raft_script.specs.Durability.{Runs}
use Rattle.raft_script.specs.Headline.{ComesBack}
use Rattle.raft_script.specs.Numbers.{HaveActed}
use Rattle.raft_script.specs.Once.{AreOnce}
use Rattle.raft_crash_laws.specs.Queues.{AreDetectableIn, AreOpenableIn, AreSingleIn, AreSoundIn, HaveDamageIn, HaveSimplePastIn, IsOpeningRefusal}
use Rattle.raft_script.specs.Failure.{IsStorageOrMemory, io_count, is_io}
use Rattle.raft_pipes.specs.Folder.{AreClear, IsLogPath, IsReservedPath}
use Rattle.raft_config.specs.Config.{IsCopy}
use Rattle.raft_config.specs.Folders.{Folders, all_of, folders_in}
use Rattle.raft_config.specs.Sanitized.{IsContradiction, contradiction}
use Rattle.raft_config.specs.declared.config.Config.{Config}
use Rattle.raft_config.specs.declared.config.RecoveryMode.{RecoveryMode}
use Rattle.raft_config.specs.declared.config.RecoveryMode.TheVariants.{AbsoluteConsistency}
use Rattle.raft_script.specs.declared.operation.Op.{Op}
use Rattle.raft_script.specs.declared.operation.Outcome.{Outcome}
use Rattle.raft_script.specs.declared.operation.Trial.{Trial}

-- what a run showed: its outcomes, where the engine failed, and why it wasn't opened
pub record Ran : Type 0 where
  pub outcomes : List Outcome
  pub failed_at : Option ℕ
  pub refused : Option Fault

module _ {F H R W : Type 0} (g : Ghosts F H R W) where
  -- an engine opened with these contents and groups did the operations, and returned its files
  pub record AreAnswered (config : Config) (m : Contents) (known : ℕ → Bool) (ops : List Op)
      (ran : Ran) (old new : F) : Type 0 where
    pub opened : ran.refused ≡ None
    pub begun : Engine F H R W g
    pub opens : Opens config old (Ok begun)
    pub holds : contents_of begun ≡ m
    pub knows : is_known_in begun ≡ known
    -- it is a run, and each operation of it is safe
    pub ended : Engine F H R W g
    pub runs : Runs ops ran.outcomes ran.failed_at begun ended
    pub once : AreOnce ops ran.outcomes begun ended
    pub numbers : HaveActed m m [] ops ran.outcomes
    pub files : g.directory new ≡ directory_of ended
    pub moments : g.moments new ≡ moments_of ended
    -- storage counted at least as many failed calls as outcomes that say `Io`
    pub counted : RoseBy (io_count ran.outcomes) no_refusals (g.refusals_of new)

  -- the opening failed for such a cause, no operation was done, and the files keep their contents
  pub record AreNotAsked (config : Config) (m : Contents) (ran : Ran) (old new : F) : Type 0 where
    pub fault : Fault
    pub refused : ran.refused ≡ Some fault
    pub cause : IsContradiction config fault ⊎ IsOpeningRefusal config.recovery_mode
        (folders_in config) (g.directory old) (g.refusals_of old) (g.refusals_of new) fault
    pub none : ran.outcomes ≡ []
    pub stands : ran.failed_at ≡ None
    pub files_keep : RecoversContents (folders_in config) m [] (g.directory new)
    pub back : ComesBack g (IsAllowedFrom 0 m []) (folders_in config) (g.directory new)

  -- operations over folders with these contents and groups, from an opening on
  pub record RunsOver (config : Config) (m : Contents) (known : ℕ → Bool) (ops : List Op)
      (ran : Ran) (old new : F) : Type 0 where
    pub answered : AreAnswered config m known ops ran old new ⊎ AreNotAsked config m ran old new
    -- the folders are clear, and no number of a kept log file is in both
    pub clear : AreClear (folders_in config) (g.directory new)
    pub single : AreSingleIn (folders_in config) (g.directory new)

-- no folder has the path of a log file or of a reserved one, as one inside the other can have
abbrev pub HaveNoLogPath : Folders → Type 0
HaveNoLogPath folders = (folder : Path) → Contains (all_of folders) folder
    → IsLogPath folders folder ⊎ IsReservedPath folders folder → ⊥

-- each changing call from this stop on fails; no other failure is set, and none was counted
abbrev pub FailsAtStop : Option ℕ → MemoryFileSystem → Type 0
FailsAtStop stop files = (stop_of files ≡ stop) × (armed_of files ≡ [])
    × (memory_refusals files ≡ no_refusals)

-- operations over new files in memory, with this stop for their calls; `last` is what they leave
pub record RunsFromEmpty {H R W : Type 0} (g : Ghosts MemoryFileSystem H R W) (config : Config)
    (ops : List Op) (stop : Option ℕ) (ran : Ran) (last : MemoryFileSystem) : Type 0 where
  pub first : MemoryFileSystem
  pub none : memory_directory first ≡ no_files
  pub fails : FailsAtStop stop first
  -- the moments until then follow those of the first files
  pub added : List Directory
  pub later : memory_moments last ≡ added ++ memory_moments first
  -- if the opening succeeded, no folder has such a path
  pub free : ran.refused ≡ None → HaveNoLogPath (folders_in config)
  -- this is said only if no folder has such a path
  pub runs : HaveNoLogPath (folders_in config)
      → RunsOver g config no_contents (known_in []) ops ran first last

-- the operations may leave files of which storage may not leave what the choices say
pub record AreNotAllowed {H R W : Type 0} (g : Ghosts MemoryFileSystem H R W) (config : Config)
    (ops : List Op) (stop : Option ℕ) (choices : List Choice) : Type 0 where
  pub ran : Ran
  pub last : MemoryFileSystem
  pub runs : RunsFromEmpty g config ops stop ran last
  pub refused : let files = memory_directory last in Leaves files (left_by choices files) → ⊥

-- an opening fails by storage, for lack of memory, or for the damage of the log
abbrev pub IsLogRefusal : RecoveryMode → Folders → Directory → Fault → Type 0
IsLogRefusal mode folders files e = IsStorageOrMemory e ⊎ HaveDamageIn mode folders files e

-- a crash of detectable damage leaves a log that can be opened, and keeps what is found in it
abbrev pub LeavesSound : Folders → Directory → Type 0
LeavesSound folders files = (d : CrashImage) → Leaves files d → AreDetectableIn folders files d
    → AreSoundIn folders files d

-- if only writes failed on the log of consistent files, and nothing decodes that a last file held
-- when it was renamed, choices that leave each file whole leave detectable damage
abbrev pub LeavesDetectable : Folders → Directory → Type 0
LeavesDetectable folders files = HaveSimplePastIn folders files
    → HaveNoStaleRecordIn folders files → AreConsistent files
    → (choices : List Choice) → AreWhole choices
    → ∥ AreDetectableIn folders files (left_by choices files) ∥₁

-- the last file of each queue was never renamed, each of its calls added only its own record, and
-- the choices leave it readable as at a moment since its last sync
abbrev pub AreReadAsBefore : Folders → Directory → List Choice → Type 0
AreReadAsBefore folders files choices = (queue : LogQueue) (f : ℕ × Path) (file : File)
    → last_kept (all_of folders) queue files ≡ Some f → file_at files f.1 ≡ Some file
    → let id = in_queue queue f.0 in (file.renamed_after ≡ None) × EachAddsOnlyItsRecord id file
    × IsReadAsBefore id file (left_by choices files f.1)

-- an opening of files and a read of all it found: at each moment the folders keep their contents
pub record Reopens {F : Type 0} (directory : F → Directory) (moments : F → List Directory)
    (refusals_of : F → Refusals) (folders : Folders) (found left : F) (opened : Result Image Fault)
    : Type 0 where
  pub any_moment : MovesBy directory moments refusals_of (StillRecovers folders) found left
  -- it fails with `Io` only if storage counted a failed call
  pub counted : is_io opened ≡ true → RoseBy 1 (refusals_of found) (refusals_of left)

-- the result of an opening of these files; a refusal has the same cause
pub record IsOpenedAs {F H R W : Type 0} (g : Ghosts F H R W) (config : Config) (files : F)
    (opened : Result Image Fault) : Type 0 where
  pub answer : Result (Engine F H R W g) (Refused F)
  pub opens : Opens config files answer
  pub shows : IfErr answer (λ r. opened ≡ Err r.fault)

-- what a trial showed of the run
abbrev pub ran_in : Trial → Ran
ran_in t =
    record { outcomes = t.outcomes.items; failed_at = t.failed_at; refused = t.refused }

-- what these choices leave of the files is a log with detectable damage
abbrev pub AreDetectablyLeft : Folders → MemoryFileSystem → List Choice → Type 0
AreDetectablyLeft folders last choices = let files = memory_directory last in
    AreDetectableIn folders files (left_by choices files)

-- operations over new files, and then a crash by these choices, which left these files
pub record IsCrashOf {H R W : Type 0} (g : Ghosts MemoryFileSystem H R W) (config : Config)
    (ops : List Op) (stop : Option ℕ) (choices : List Choice) (ran : Ran) (left : MemoryFileSystem)
    : Type 0 where
  pub last : MemoryFileSystem
  pub runs : RunsFromEmpty g config ops stop ran last
  -- storage may leave what the choices say, and so the files are after the crash, with no stop
  pub leaves : let files = memory_directory last in Leaves files (left_by choices files)
  pub restarted : let files = memory_directory last in
      IsRestarted files (left_by choices files) (memory_directory left)
  pub fails : FailsAtStop None left
  -- if an engine was opened and didn't fail, choices that leave each file whole leave detectable
  -- damage, unless something decodes that a last file held when it was renamed
  pub detectable : ran.refused ≡ None → ran.failed_at ≡ None → AreWhole choices
      → HaveNoStaleRecordIn (folders_in config) (memory_directory last)
      → ∥ AreDetectablyLeft (folders_in config) last choices ∥₁
  -- torn files too are left with detectable damage, whatever failed, if they are read as before
  pub torn : NameNoBytes choices
      → AreReadAsBefore (folders_in config) (memory_directory last) choices
      → AreDetectablyLeft (folders_in config) last choices
  -- if the damage is detectable, each tolerant opening accepts the files
  pub opens : HaveNoLogPath (folders_in config) → AreDetectablyLeft (folders_in config) last choices
      → (mode : RecoveryMode) → (mode ≡ AbsoluteConsistency → ⊥)
      → AreOpenableIn mode (folders_in config) (memory_directory left)
  -- if the damage is detectable, a further crash leaves what is found
  pub kept : HaveNoLogPath (folders_in config) → AreDetectablyLeft (folders_in config) last choices
      → let found = memory_directory left in
      RecoversContents (folders_in config) (contents_at (folders_in config) found) [] found

-- an opening of these files with a copy of the settings; P: the damage of the last crash is
-- detectable; Q: that of the crashes before is
pub record IsOpeningOf {H R W : Type 0} (g : Ghosts MemoryFileSystem H R W) (P Q : Type 0)
    (config : Config) (files last : MemoryFileSystem) (opened : Result Image Fault) : Type 0 where
  pub copy : Config
  pub is : IsCopy config copy
  pub opens : IsOpenedAs g copy files opened
  pub reopened : Reopens memory_directory memory_moments memory_refusals (folders_in config) files
      last opened
  -- it found what the files hold, and shows it without the groups' numbers
  pub found : IfOk opened (λ image. IsImageOf image.groups.items
      (shown (contents_at (folders_in config) (memory_directory files))))
  -- a tolerant opening doesn't fail for detectable damage, if no folder has the path of a log file
  pub refused : HaveNoLogPath (folders_in config) → Q → P
      → (config.recovery_mode ≡ AbsoluteConsistency → ⊥) → contradiction config ≡ None
      → IfErr opened IsStorageOrMemory
  -- any opening fails only for contradicting settings, by storage, for memory, or for what is left
  pub cause : HaveNoLogPath (folders_in config) → Q → IfErr opened (λ e. IsContradiction config e
      ⊎ IsLogRefusal config.recovery_mode (folders_in config) (memory_directory files) e)

-- operations over new files, a crash by these choices, and an opening with the same settings
pub record IsTrialOf {H R W : Type 0} (g : Ghosts MemoryFileSystem H R W) (config : Config)
    (ops : List Op) (stop : Option ℕ) (choices : List Choice) (t : Trial) : Type 0 where
  pub again : MemoryFileSystem
  pub crash : IsCrashOf g config ops stop choices (ran_in t) again
  pub none : t.second ≡ None
  pub last : MemoryFileSystem
  pub opening : IsOpeningOf g (AreDetectablyLeft (folders_in config) crash.last choices) (Unit {0})
      config again last t.opened

-- a second crash inside an opening of what the first one left, whose changing calls fail from a
-- stop on, left these files
pub record IsSecondCrash {H R W : Type 0} (g : Ghosts MemoryFileSystem H R W) (config : Config)
    (again : Option ℕ) (more : List Choice) (Q : Type 0) (second : Option (Result Image Fault))
    (first left : MemoryFileSystem) : Type 0 where
  pub begun : MemoryFileSystem
  pub begins : memory_directory begun ≡ memory_directory first
  pub fails : FailsAtStop again begun
  pub image : Result Image Fault
  pub is : second ≡ Some image
  pub last : MemoryFileSystem
  pub opening : IsOpeningOf g Q (Unit {0}) config begun last image
  pub leaves : let files = memory_directory last in Leaves files (left_by more files)
  pub restarted : let files = memory_directory last in
      IsRestarted files (left_by more files) (memory_directory left)
  pub fresh : FailsAtStop None left
  -- if the damage of both crashes is detectable, nothing of what the first left is lost or
  -- changed, at whatever moment of the opening the second came
  pub same : HaveNoLogPath (folders_in config) → Q
      → AreDetectablyLeft (folders_in config) last more
      → contents_at (folders_in config) (memory_directory left)
      ≡ contents_at (folders_in config) (memory_directory first)

-- a trial with a second crash, by more choices, inside its opening, and an opening after that
pub record IsTrialTwiceOf {H R W : Type 0} (g : Ghosts MemoryFileSystem H R W) (config : Config)
    (ops : List Op) (stop : Option ℕ) (choices : List Choice) (again : Option ℕ)
    (more : List Choice) (t : Trial) : Type 0 where
  pub first : MemoryFileSystem
  pub crash : IsCrashOf g config ops stop choices (ran_in t) first
  pub left : MemoryFileSystem
  pub second : IsSecondCrash g config again more
      (AreDetectablyLeft (folders_in config) crash.last choices) t.second first left
  pub last : MemoryFileSystem
  pub opening : IsOpeningOf g (AreDetectablyLeft (folders_in config) second.last more)
      (AreDetectablyLeft (folders_in config) crash.last choices) config left last t.opened

-- the second crash may meet files of which storage may not leave what its choices say
pub record AreNotAllowedAgain {H R W : Type 0} (g : Ghosts MemoryFileSystem H R W) (config : Config)
    (ops : List Op) (stop : Option ℕ) (choices : List Choice) (again : Option ℕ)
    (more : List Choice) : Type 0 where
  pub ran : Ran
  pub first : MemoryFileSystem
  pub crash : IsCrashOf g config ops stop choices ran first
  pub begun : MemoryFileSystem
  pub begins : memory_directory begun ≡ memory_directory first
  pub fails : FailsAtStop again begun
  pub image : Result Image Fault
  pub last : MemoryFileSystem
  pub reopened : Reopens memory_directory memory_moments memory_refusals (folders_in config) begun
      last image
  pub refused : let files = memory_directory last in Leaves files (left_by more files) → ⊥
