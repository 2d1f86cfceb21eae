-- The settings of the program's engine: its own, and over them what the first lines set.
use Rattle.std.specs.Prelude.{◌≡◌, ◌⊎◌, ℕ, ◌*◌, ◌&&◌, nat_lt, Bool, true, List, length, take, drop, codes, Option, Some, None, is_some, if◌then◌else◌}
use Rattle.std.specs.Str.{IsUtf8, bytes_eq}
use Rattle.std.specs.String.{string_bytes}
use Rattle.raft_base.specs.declared.errors.Fault.{Fault}
use Rattle.raft_base.specs.declared.errors.Fault.TheVariants as fault
use Rattle.raft_config.specs.Config.{IsDefault}
use Rattle.raft_config.specs.declared.config.Config.{Config}
use Rattle.raft_settings.specs.Reading.{Reads}
use Rattle.raft_lines.specs.declared.settings.Settings.{Settings}

-- the text that a line sets: what follows the word `set` and a blank, if anything does
abbrev pub text_set : List ℕ → Option (List ℕ)
text_set line = if bytes_eq (take 4 line) (codes "set ") && nat_lt 4 (length line)
    then Some (drop 4 line) else None

-- the program's own settings: the default ones except for the folder and two sizes
pub record AreOwn (c : Config) : Type 0 where
  pub dir : string_bytes c.dir ≡ codes "raft"
  pub target_file_size : c.target_file_size.0 ≡ 1024
  pub purge_threshold : c.purge_threshold.0 ≡ 10 * 1024
  pub default : Config
  pub is_default : IsDefault default
  pub others : record c {
    dir = default.dir;
    target_file_size = default.target_file_size;
    purge_threshold = default.purge_threshold;
  } ≡ default

-- these lines make settings over the program's own
abbrev pub SetsOwn : List ℕ → Config → Type 0
SetsOwn lines c = (own : Config) × AreOwn own × Reads lines own c

-- such lines are refused: they are no text, or make no settings, or memory ran out
abbrev pub IsSetRefusal : List ℕ → Fault → Type 0
IsSetRefusal lines (fault.InvalidArgument reason) = (IsUtf8 lines → ⊥)
    ⊎ ((own : Config) × AreOwn own × ((c : Config) → Reads lines own c → ⊥))
IsSetRefusal lines fault.Memory = Unit {0}
IsSetRefusal lines _ = ⊥

-- the lines of settings were read, since another line requested something
abbrev pub were_read : Settings → Bool
were_read settings = is_some settings.config

-- the settings for a line: those that were read before it, or else some made of the lines
pub record AreMet (old new : Settings) (c : Config) : Type 0 where
  pub is : new.config ≡ Some c
  pub once : were_read old ≡ true → new ≡ old
  pub made : old.config ≡ None → SetsOwn old.lines.items c
