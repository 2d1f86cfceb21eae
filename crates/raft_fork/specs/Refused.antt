-- Why a fork is refused.
use Rattle.std.specs.Prelude.{◌≡◌, ◌⊎◌, List, ◌∷◌, ℕ, codes, Option, Some, None, String, Contains, map, if◌then◌else◌, Bool, true, false}
use Rattle.std.specs.declared.alloc.Global.{Global}
use Rattle.raft_base.specs.declared.errors.Fault.{Fault}
use Rattle.raft_base.specs.declared.errors.Fault.TheVariants as fault
use Rattle.raft_base.specs.declared.pipe_log.LogQueue.{LogQueue}
use Rattle.raft_env.specs.Directory.{Directory, HasFile, Path}
use Rattle.raft_env.specs.Refusal.{FailsAt, NamesFile, Refusals}
use Rattle.raft_config.specs.Folders.{folders_in}
use Rattle.raft_config.specs.Sanitized.{contradiction}
use Rattle.raft_config.specs.declared.config.Config.{Config}
use Rattle.raft_config.specs.declared.config.RecoveryMode.{RecoveryMode}
use Rattle.raft_config.specs.declared.config.RecoveryMode.TheVariants.{TolerateAnyCorruption}
use Rattle.raft_pipes.specs.Folder.{IsLogPathIn}
use Rattle.raft_pipes.specs.Numbered.{AreSingle}
use Rattle.raft_fork.specs.Fork.{IsFree, Source, copies_in, mark_in, standing}

-- the recovery mode is tolerate-any-corruption
abbrev pub tolerates_all : RecoveryMode → Bool
tolerates_all TolerateAnyCorruption = true
tolerates_all _ = false

-- the first reason to refuse the source's settings: recycling, the mode, or a contradiction
abbrev pub fork_contradiction : Config → Option (List ℕ)
fork_contradiction c =
    if c.enable_log_recycle then Some (codes "a fork needs enable-log-recycle to be off")
    else if tolerates_all c.recovery_mode
    then Some (codes "a fork needs another recovery-mode than tolerate-any-corruption")
    else contradiction c

-- the settings are refused for their first reason, or memory ran out
abbrev pub IsSettingsRefusal : Config → Fault → Type 0
IsSettingsRefusal c (fault.InvalidArgument text) = fork_contradiction c ≡ Some text.now
IsSettingsRefusal c fault.Memory = Unit {0}
IsSettingsRefusal c _ = ⊥

-- a log file is in the target
abbrev pub HasLogIn : Path → Directory → Type 0
HasLogIn target n = (path : Path) × IsLogPathIn target path × HasFile n path

-- the target has a log file, or the mark of a fork that hasn't ended
abbrev pub HasForkIn : Path → Directory → Type 0
HasForkIn target n = HasLogIn target n ⊎ HasFile n (mark_in target)

-- the target has a mark, or memory ran out
abbrev pub IsMarkRefusal : Path → Directory → Fault → Type 0
IsMarkRefusal target n (fault.InvalidArgument text) = HasFile n (mark_in target)
IsMarkRefusal target n fault.Memory = Unit {0}
IsMarkRefusal target n _ = ⊥

-- a file has the target's path, the target has a fork, or a call on it fails
abbrev pub IsTargetRefusal : Path → Directory → Refusals → Refusals → Fault → Type 0
IsTargetRefusal target n old new (fault.InvalidArgument text) =
    HasFile n target ⊎ HasForkIn target n
IsTargetRefusal target n old new e = FailsAt (NamesFile target) old new e

-- the path is this folder or a log file in it
abbrev pub IsInFolder : Path → Path → Type 0
IsInFolder folder path = (path ≡ folder) ⊎ IsLogPathIn folder path

-- the path is one of these folders or a log file in one
abbrev pub IsInOneOf : List Path → Path → Type 0
IsInOneOf folders path = (folder : Path) × Contains folders folder × IsInFolder folder path

-- the text of a fault by storage names such a place
abbrev pub NamesOneOf : List Path → String Global → Type 0
NamesOneOf folders text = (path : Path) × IsInOneOf folders path × NamesFile path text

-- a number that an opening keeps is in both folders, or a call on one or on its log files fails
abbrev pub IsSourceRefusal : List Path → Directory → Refusals → Refusals → Fault → Type 0
IsSourceRefusal there n old new (fault.InvalidArgument text) =
    (queue : LogQueue) × (AreSingle there queue n → ⊥)
IsSourceRefusal there n old new e = FailsAt (NamesOneOf there) old new e

-- memory ran out, or a call on a source file or on its copy fails
abbrev pub IsCopyRefusal : Path → List Source → Refusals → Refusals → Fault → Type 0
IsCopyRefusal target files old new e = (e ≡ fault.Memory) ⊎ ((path : Path)
    × (Contains (copies_in target files) path ⊎ Contains (map (λ f. f.1) files) path)
    × FailsAt (NamesFile path) old new e)

-- IsCopyRefusal, or a call on the mark fails
abbrev pub IsMarkedRefusal : Path → List Source → Refusals → Refusals → Fault → Type 0
IsMarkedRefusal target files old new e =
    FailsAt (NamesFile (mark_in target)) old new e ⊎ IsCopyRefusal target files old new e

-- the text of a fault by storage names a folder of these or a log file in one, or the target's mark
abbrev pub NamesPlace : Path → List Path → String Global → Type 0
NamesPlace target folders text = NamesOneOf folders text ⊎ NamesFile (mark_in target) text

-- the refused argument: the settings, or a target that isn't free, or a number in both folders
abbrev pub IsInvalid : Option (List ℕ) → List Path → Path → Directory → List ℕ → Type 0
IsInvalid (Some reason) there target n text = text ≡ reason
IsInvalid None there target n text = HasFile n target ⊎ HasForkIn target n
    ⊎ (IsFree target n × ((queue : LogQueue) × (AreSingle there queue n → ⊥)))

-- a fork is refused for an argument, by a call on a file or a folder, which the fault names, or for
-- lack of memory
abbrev pub IsForkRefusal : Config → Path → Directory → Refusals → Refusals → Fault → Type 0
IsForkRefusal c target n old new (fault.InvalidArgument text) =
    IsInvalid (fork_contradiction c) (standing (folders_in c) n) target n text.now
IsForkRefusal c target n old new e =
    FailsAt (NamesPlace target (target ∷ standing (folders_in c) n)) old new e
