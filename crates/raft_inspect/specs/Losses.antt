-- What an opening loses of the log files of both queues.
use Rattle.std.specs.Prelude.{◌≡◌, ◌⊎◌, ◌↔◌, ◌++◌, true, false, List, [], Option, map, Contains}
use Rattle.std.specs.List.{cons_option}
use Rattle.raft_base.specs.declared.pipe_log.LogQueue.{LogQueue}
use Rattle.raft_base.specs.declared.pipe_log.LogQueue.TheVariants.{Append, Rewrite}
use Rattle.raft_env.specs.Directory.{Directory, Path}
use Rattle.raft_config.specs.Folders.{folders_in}
use Rattle.raft_config.specs.declared.config.Config.{Config}
use Rattle.raft_config.specs.declared.config.RecoveryMode.{RecoveryMode}
use Rattle.raft_dump.specs.Check.{plan_of}
use Rattle.raft_dump.specs.declared.plan.Planned.TheVariants.{Fail}
use Rattle.raft_pipes.specs.Numbered.{AreSingle}
use Rattle.raft_inspect.specs.Cuts.{CutPlace, cuts_in, place_of}
use Rattle.raft_inspect.specs.Kept.{AreKeptOf, ArePassedOf, folders_there}
use Rattle.raft_inspect.specs.declared.kept.KeptFiles.{KeptFiles}
use Rattle.raft_inspect.specs.declared.losses.Losses.{Losses}
use Rattle.raft_inspect.specs.declared.losses.Passed.{Passed}

-- an opening that keeps these files fails: by its plan, or one number is in two folders
abbrev pub IsToFail : RecoveryMode → List Path → LogQueue → Directory → KeptFiles → Type 0
IsToFail mode folders queue n kept = Contains (plan_of mode kept.found.checks.items) Fail
    ⊎ (AreSingle folders queue n → ⊥)

-- the cuts of an opening that keeps these files and doesn't fail
abbrev pub cuts_by : RecoveryMode → KeptFiles → List CutPlace
cuts_by mode kept = cuts_in mode kept.found.files.items kept.found.checks.items

-- what an opening in this mode loses of the files of both queues in these folders
pub record AreLossesIn (mode : RecoveryMode) (folders : List Path) (n : Directory)
    (losses : Losses) : Type 0 where
  pub rewrite : KeptFiles
  pub append : KeptFiles
  pub are_rewrite : AreKeptOf folders Rewrite n rewrite
  pub are_append : AreKeptOf folders Append n append
  pub fails : losses.fails ≡ true
      ↔ (IsToFail mode folders Rewrite n rewrite ⊎ IsToFail mode folders Append n append)
  pub none : losses.fails ≡ true → map place_of losses.cuts.items ≡ []
  pub cuts : losses.fails ≡ false
      → map place_of losses.cuts.items ≡ cuts_by mode rewrite ++ cuts_by mode append
  pub rewrite_passed : Option Passed
  pub append_passed : Option Passed
  pub passed : losses.passed.items ≡ cons_option rewrite_passed (cons_option append_passed [])
  pub of_rewrite : ArePassedOf folders Rewrite n rewrite_passed
  pub of_append : ArePassedOf folders Append n append_passed

-- AreLossesIn, for those of the settings' folders that exist
abbrev pub AreLossesOf : Config → Directory → Losses → Type 0
AreLossesOf config n losses =
    AreLossesIn config.recovery_mode (folders_there (folders_in config) n) n losses
