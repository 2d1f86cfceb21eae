-- The result of an opening with settings as text.
use Rattle.std.specs.Prelude.{◌≡◌, ◌⊎◌, ℕ, List, ℤ, pos, Result, Ok, Err}
use Rattle.std.specs.Str.{IsUtf8}
use Rattle.raft_base.specs.Fault.{fault_code}
use Rattle.raft_base.specs.declared.errors.Fault.{Fault}
use Rattle.raft_config.specs.Folders.{folders_in}
use Rattle.raft_config.specs.Sanitized.{IsContradiction}
use Rattle.raft_config.specs.declared.config.Config.{Config}
use Rattle.raft_env.specs.Directory.{Directory}
use Rattle.raft_env.specs.Moments.{HoldsThroughout}
use Rattle.raft_env.specs.Refusal.{Refusals}
use Rattle.raft_env.specs.declared.env.FileSystem.{Ghosts}
use Rattle.raft_crash_laws.specs.Crash.{StillRecovers}
use Rattle.raft_crash_laws.specs.Queues.{IsOpeningRefusal}
use Rattle.raft_log_engine.specs.Opening.{Opens}
use Rattle.raft_log_engine.specs.declared.engine.Engine.{Engine}
use Rattle.raft_log_engine.specs.declared.engine.Refused.{Refused}
use Rattle.raft_settings.specs.Reading.{IsLoneReadRefusal, ReadsAlone}

-- the bytes are no text, or no settings can be read of them
abbrev pub IsTextRefusal : List ℕ → Fault → Type 0
IsTextRefusal text e = ((fault_code e ≡ 1) × (IsUtf8 text → ⊥)) ⊎ IsLoneReadRefusal text e

-- at each moment the text's folders keep what they kept; without settings nothing changes
abbrev pub KeepsNamed : List ℕ → Directory → List Directory → List Directory → Directory → Type 0
KeepsNamed text n before after now =
    ((settings : Config) × ReadsAlone text settings
    × HoldsThroughout before after now (StillRecovers (folders_in settings) n))
    ⊎ ((after ≡ before) × (now ≡ n))

-- an opening fails with a fault of this code: the text's, or the engine's
pub record IsUnopened (text : List ℕ) (code : ℤ) (n : Directory) (old new : Refusals)
    : Type 0 where
  pub fails : Fault
  pub code_is : code ≡ pos (fault_code fails)
  pub cause :
      IsTextRefusal text fails ⊎ ((settings : Config) × ReadsAlone text settings
      × (IsContradiction settings fails
      ⊎ IsOpeningRefusal settings.recovery_mode (folders_in settings) n old new fails))

module _ {F H R W : Type 0} {g : Ghosts F H R W} where
  -- an engine was opened with the settings of a text, over files in these folders
  pub record IsOpenedBy (text : List ℕ) (n : Directory) (e : Engine F H R W g) : Type 0 where
    pub settings : Config
    pub read : ReadsAlone text settings
    pub found : F
    pub found_in : g.directory found ≡ n
    pub opens : Opens settings found (Ok e)

  -- the result of an opening of these files with the settings of a text
  pub record OpensWithText (text : List ℕ) (found : F) (result : Result (Engine F H R W g) (Refused F))
      : Type 0 where
    pub settings : Config
    pub read : ReadsAlone text settings
    pub opens : Opens settings found result

  -- OpensWithText, or the text is refused and the files are returned as they are
  abbrev pub OpensBy : List ℕ → F → Result (Engine F H R W g) (Refused F) → Type 0
  OpensBy text found result = OpensWithText text found result
      ⊎ ((e : Fault) × IsTextRefusal text e
      × (result ≡ Err (record { fault = e; file_system = found })))
