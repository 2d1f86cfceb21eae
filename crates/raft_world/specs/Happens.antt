-- Everything that may happen to a log, and what an opening finds after it.
--
-- Read `Happens` line by line: each line is one event. The law is `TheLogIsSafe`: after any events,
-- an engine that hasn't failed holds what its log accepted, and an opening of the files finds only
-- what the log may hold.
use Rattle.std.specs.Prelude.{◌≡◌, ◌⊎◌, ◌++◌, [], ◌∷◌, true, false, List, None, Ok, Err, Result, IfErr, IfOk}
use Rattle.raft_records.specs.Contents.{no_contents}
use Rattle.raft_env.specs.Directory.{CrashImage, Directory, IsRestarted, Leaves, Path, file_at}
use Rattle.raft_env.specs.Refusal.{FailsAt}
use Rattle.raft_env.specs.declared.env.FileSystem.{Ghosts}
use Rattle.raft_config.specs.Folders.{Folders, folders_in}
use Rattle.raft_config.specs.Sanitized.{contradiction}
use Rattle.raft_config.specs.declared.config.Config.{Config}
use Rattle.raft_config.specs.declared.config.RecoveryMode.TheVariants.{AbsoluteConsistency}
use Rattle.raft_files.specs.Records.{as_it_is}
use Rattle.raft_pipes.specs.Folder.{AreClear, HasNoLog, IsLogPath, LeavesOtherFiles}
use Rattle.raft_crash_laws.specs.Queues.{AreDetectableIn}
use Rattle.raft_log_engine.specs.Engine.{IsAllSynced, contents_of, directory_of, durable_of, folders_of, has_failed, moments_of, unsynced_of}
use Rattle.raft_log_engine.specs.Opening.{Opens, opened_files}
use Rattle.raft_log_engine.specs.declared.engine.Engine.{Engine}
use Rattle.raft_log_engine.specs.declared.engine.Refused.{Refused}
use Rattle.raft_world.specs.Call.{Closes, Ends, GivesUp, HasEffect, Reopens}
use Rattle.raft_world.specs.Ledger.{Effect, Ledger, MayFind, MayRecover, accepted_contents, after_effect, all_durable, interrupted, starts_with}

-- settings that contradict nothing, and tolerate a broken end of a log
pub record IsTolerant (config : Config) : Type 0 where
  pub fit : contradiction config ≡ None
  pub mode : config.recovery_mode ≡ AbsoluteConsistency → ⊥

-- a moment of a call: one of the new moments, or its end
abbrev pub IsMoment : List Directory → List Directory → Directory → Directory → Type 0
IsMoment old new now n =
    (n ≡ now) ⊎ ((later earlier : List Directory) × (new ≡ (later ++ n ∷ earlier) ++ old))

-- a crash at this moment left these files, with any damage
pub record IsAfterCrash (n after : Directory) : Type 0 where
  pub left : CrashImage
  pub leaves : Leaves n left
  pub restarted : IsRestarted n left after

-- a crash left these files with detectable damage: the premise of the law (docs/READING.md)
pub record HasCrashed (folders : Folders) (n after : Directory) : Type 0 where
  pub crash : IsAfterCrash n after
  pub detectable : AreDetectableIn folders n crash.left

-- files as they are, without a crash, with detectable damage
abbrev pub AreDetectable : Folders → Directory → Type 0
AreDetectable folders n = AreDetectableIn folders n (as_it_is n)

-- the log files are as they were, and the others too, except reserved ones
pub record LeavesLog (folders : Folders) (n later : Directory) : Type 0 where
  pub logs : (path : Path) → IsLogPath folders path → file_at later path ≡ file_at n path
  pub others : LeavesOtherFiles folders n later

module _ {F H R W : Type 0} (g : Ghosts F H R W) where
  -- a node runs an engine, is inside a call, or is down, when there are only files
  pub data Node : Type 0 where
    Running : (e : Engine F H R W g) → Node
    Inside : (n : Directory) → Node
    Down : (n : Directory) → Node

  -- its files now
  abbrev pub files_of : Node → Directory
  files_of (Running e) = directory_of e
  files_of (Inside n) = n
  files_of (Down n) = n

  -- an opening of these files returned this, in order or with any number of workers; its settings
  -- name these folders
  pub record HasOpened (folders : Folders) (config : Config) (files : F)
      (answer : Result (Engine F H R W g) (Refused F)) : Type 0 where
    pub same : folders_in config ≡ folders
    pub opens : Opens config files answer

  -- a moment of an opening
  abbrev pub IsMomentOfOpening : F → Result (Engine F H R W g) (Refused F) → Directory → Type 0
  IsMomentOfOpening files answer n = let after = opened_files answer in
      IsMoment (g.moments files) (g.moments after) (g.directory after) n

-- the ledger of an engine of whose past nothing is known
abbrev pub ledger_of : {F H R W : Type 0} {g : Ghosts F H R W} → Engine F H R W g → Ledger
ledger_of e =
    record { start = durable_of e; durable = []; unsynced = unsynced_of e; in_flight = [] }

module _ {F H R W : Type 0} (g : Ghosts F H R W) (folders : Folders) (first : Ledger) where
  -- everything that may happen to a log that began with this ledger
  pub data Happens : Node g → Ledger → Type 0 where
    -- the folders have no log file
    Begins : (n : Directory) → HasNoLog folders n → AreClear folders n
        → first ≡ starts_with no_contents → Happens (Down n) first
    -- or there is any engine that hasn't failed
    BeginsWith : (e : Engine F H R W g) → folders_of e ≡ folders → has_failed e ≡ false
        → first ≡ ledger_of e → Happens (Running e) first
    -- an opening returns an engine
    Opened : (config : Config) (files : F) (l later : Ledger) (e : Engine F H R W g)
        → Happens (Down (g.directory files)) l → HasOpened g folders config files (Ok e)
        → MayRecover l later (contents_of e) → Happens (Running e) later
    -- an opening fails
    OpeningFailed : (config : Config) (files : F) (l : Ledger) (r : Refused F)
        → Happens (Down (g.directory files)) l → HasOpened g folders config files (Err r)
        → AreDetectable folders (g.directory r.file_system)
        → Happens (Down (g.directory r.file_system)) l
    -- a call returns, and the engine hasn't failed
    Called : (e later : Engine F H R W g) (l : Ledger) (effect : Effect) → Happens (Running e) l
        → HasEffect effect e later → has_failed later ≡ false
        → Happens (Running later) (after_effect effect l)
    -- the engine fails in a call
    Failed : (e later : Engine F H R W g) (l : Ledger) (effect : Effect) → Happens (Running e) l
        → HasEffect effect e later → has_failed e ≡ false → has_failed later ≡ true
        → Happens (Running later) (interrupted effect l)
    -- a call of an engine that had failed
    Rested : (e later : Engine F H R W g) (l : Ledger) (effect : Effect) → Happens (Running e) l
        → HasEffect effect e later → has_failed e ≡ true → Happens (Running later) l
    -- a close returns `Ok`
    Closed : (e : Engine F H R W g) (l : Ledger) (files : F) → Happens (Running e) l
        → Closes e files → Happens (Down (g.directory files)) (all_durable l)
    -- a reopening returns `Ok`
    Reopened : (e later : Engine F H R W g) (l : Ledger) → Happens (Running e) l
        → Reopens e later → Happens (Running later) (all_durable l)
    -- the engine is given up, a close or a reopening fails, or the process ends without a close
    GivenUp : (e : Engine F H R W g) (l : Ledger) (files : F) → Happens (Running e) l
        → GivesUp e files → AreDetectable folders (g.directory files)
        → Happens (Down (g.directory files)) l
    -- another process or value reads the files again, with the bytes that they had
    Restarted : (n later : Directory) (l : Ledger) → Happens (Down n) l
        → IsRestarted n (as_it_is n) later → Happens (Down later) l
    -- the files are taken as they are, perhaps without reserved ones: by another value, or after an
    -- opening that refused its settings and changed nothing
    Untouched : (n later : Directory) (l : Ledger) → Happens (Down n) l
        → LeavesLog folders n later → Happens (Down later) l
    -- a moment inside a call
    InsideCall : (e later : Engine F H R W g) (l : Ledger) (effect : Effect) (n : Directory)
        → Happens (Running e) l → HasEffect effect e later → has_failed e ≡ false
        → IsMoment (moments_of e) (moments_of later) (directory_of later) n
        → Happens (Inside n) (interrupted effect l)
    -- a moment inside a close or a reopening
    InsideClose : (e : Engine F H R W g) (l : Ledger) (after : F) (n : Directory)
        → Happens (Running e) l → Ends e after
        → IsMoment (moments_of e) (g.moments after) (g.directory after) n → Happens (Inside n) l
    -- a moment inside an opening
    InsideOpening : (config : Config) (files : F) (l : Ledger)
        (answer : Result (Engine F H R W g) (Refused F)) (n : Directory)
        → Happens (Down (g.directory files)) l → HasOpened g folders config files answer
        → IsMomentOfOpening g files answer n → Happens (Inside n) l
    -- the machine crashes, at any of these moments; a kill is a crash that leaves all bytes
    Crashed : (node : Node g) (l : Ledger) (after : Directory) → Happens node l
        → HasCrashed folders (files_of g node) after → Happens (Down after) l

module _ {F H R W : Type 0} (g : Ghosts F H R W) (folders : Folders) where
  -- an opening of files with this ledger returns an engine in these folders that hasn't failed, is
  -- all synced and holds contents that may be found; or it fails, with tolerant settings only by
  -- storage, which counted the failure, or out of memory
  pub record FindsOnly (l : Ledger) (config : Config) (files : F)
      (answer : Result (Engine F H R W g) (Refused F)) : Type 0 where
    pub ok : IfOk answer (λ e. (folders_of e ≡ folders) × (has_failed e ≡ false) × IsAllSynced e
        × MayFind l (contents_of e))
    pub err : IsTolerant config → IfErr answer (λ r.
        FailsAt (λ _. Unit {0}) (g.refusals_of files) (g.refusals_of r.file_system) r.fault)

  -- what holds of a node with this ledger
  abbrev pub Holds : Node g → Ledger → Type 0
  Holds (Running e) l = has_failed e ≡ false → contents_of e ≡ accepted_contents l
  Holds (Inside n) l = Unit {0}
  Holds (Down n) l =
      (config : Config) (files : F) (answer : Result (Engine F H R W g) (Refused F))
      → g.directory files ≡ n → HasOpened g folders config files answer
      → FindsOnly l config files answer

-- the law
abbrev pub TheLogIsSafe : {F H R W : Type 0} → Ghosts F H R W → Type 0
TheLogIsSafe g = (folders : Folders) (first : Ledger) (node : Node g) (l : Ledger)
    → Happens g folders first node l → Holds g folders node l

-- the events continue after an opening, with a ledger of what it found
abbrev pub OpeningsContinue : {F H R W : Type 0} → Ghosts F H R W → Type 0
OpeningsContinue {F} {H} {R} {W} g = (folders : Folders) (first : Ledger) (config : Config)
    (files : F) (l : Ledger) (e : Engine F H R W g)
    → Happens g folders first (Down (g.directory files)) l
    → HasOpened g folders config files (Ok e)
    → ∥ ((later : Ledger) × (contents_of e ≡ accepted_contents later)
    × MayRecover l later (contents_of e) × Happens g folders first (Running e) later) ∥₁
