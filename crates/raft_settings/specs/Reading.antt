-- Which settings a text names, and what it makes of others.
use Rattle.std.specs.Prelude.{◌≡◌, ◌==◌, ◌||◌, ℕ, pos, List, codes, Option, Some, None, option_map, if◌then◌else◌}
use Rattle.std.specs.Str.{bytes_eq}
use Rattle.std.specs.String.{string_bytes}
use Rattle.raft_base.specs.Size.{size_in}
use Rattle.raft_base.specs.declared.errors.Fault.{Fault}
use Rattle.raft_base.specs.declared.errors.Fault.TheVariants as fault
use Rattle.raft_base.specs.declared.pipe_log.Version.{Version}
use Rattle.raft_base.specs.declared.pipe_log.Version.TheVariants.{V1, V2}
use Rattle.raft_base.specs.declared.readable_size.ReadableSize.{ReadableSize}
use Rattle.raft_config.specs.Config.{IsDefault}
use Rattle.raft_config.specs.declared.config.Config.{Config}
use Rattle.raft_config.specs.declared.config.RecoveryMode.{RecoveryMode}
use Rattle.raft_config.specs.declared.config.RecoveryMode.TheVariants.{AbsoluteConsistency, TolerateTailCorruption, TolerateAnyCorruption}
use Rattle.toml.specs.Data.{Data, string, integer, Members, as_bool, as_str, get_member}
use Rattle.toml.specs.Parse.{parse_document}

-- a number without a sign
abbrev pub whole_of : Data → Option ℕ
whole_of (integer (pos number)) = Some number
whole_of _ = None

-- a size of so many bytes
abbrev pub of_bytes : ℕ → ReadableSize
of_bytes bytes = record { 0 = bytes }

-- a number of bytes, or a text of digits with a unit
abbrev pub size_of : Data → Option ReadableSize
size_of (integer (pos bytes)) = Some (of_bytes bytes)
size_of (string text) = option_map of_bytes (size_in text)
size_of _ = None

-- the version of this number
abbrev pub version_numbered : ℕ → Option Version
version_numbered number =
    if number == 1 then Some V1 else if number == 2 then Some V2 else None

-- the version that a value says
abbrev pub version_of : Data → Option Version
version_of (integer (pos number)) = version_numbered number
version_of _ = None

-- the mode of the tail has two names
abbrev pub mode_named : List ℕ → Option RecoveryMode
mode_named name =
    if bytes_eq name (codes "absolute-consistency") then Some AbsoluteConsistency
    else if bytes_eq name (codes "tolerate-tail-corruption")
    || bytes_eq name (codes "tolerate-corrupted-tail-records") then Some TolerateTailCorruption
    else if bytes_eq name (codes "tolerate-any-corruption") then Some TolerateAnyCorruption
    else None

-- the recovery mode that a value says
abbrev pub mode_of : Data → Option RecoveryMode
mode_of (string name) = mode_named name
mode_of _ = None

-- a setting that may be missing
abbrev pub some_of : {A : Type 0} → (Data → Option A) → Data → Option (Option A)
some_of read value = option_map Some (read value)

-- what a setting becomes: without a value for it, it stays; none where the value is no such setting
abbrev pub changed_to : {A : Type 0} → (Data → Option A) → A → Option Data → Option A
changed_to read old None = Some old
changed_to read old (Some value) = read value

-- what a setting becomes by the value of its key
abbrev pub setting : {A : Type 0} → Members → List ℕ → (Data → Option A) → A → Option A
setting table key read old = changed_to read old (get_member key table)

-- a table makes these settings of others; keys that aren't listed here mean nothing
pub record Changes (table : Members) (old new : Config) : Type 0 where
  pub dir : setting table (codes "dir") as_str (string_bytes old.dir)
      ≡ Some (string_bytes new.dir)
  pub spill_dir : setting table (codes "spill-dir") (some_of as_str)
      (option_map string_bytes old.spill_dir) ≡ Some (option_map string_bytes new.spill_dir)
  pub recovery_mode : setting table (codes "recovery-mode") mode_of old.recovery_mode
      ≡ Some new.recovery_mode
  pub recovery_read_block_size : setting table (codes "recovery-read-block-size") size_of
      old.recovery_read_block_size ≡ Some new.recovery_read_block_size
  pub recovery_threads : setting table (codes "recovery-threads") whole_of old.recovery_threads
      ≡ Some new.recovery_threads
  pub bytes_per_sync : setting table (codes "bytes-per-sync") (some_of size_of)
      old.bytes_per_sync ≡ Some new.bytes_per_sync
  pub format_version : setting table (codes "format-version") version_of old.format_version
      ≡ Some new.format_version
  pub target_file_size : setting table (codes "target-file-size") size_of old.target_file_size
      ≡ Some new.target_file_size
  pub purge_threshold : setting table (codes "purge-threshold") size_of old.purge_threshold
      ≡ Some new.purge_threshold
  pub purge_rewrite_threshold : setting table (codes "purge-rewrite-threshold") (some_of size_of)
      old.purge_rewrite_threshold ≡ Some new.purge_rewrite_threshold
  -- in thousandths
  pub purge_rewrite_garbage_ratio : setting table (codes "purge-rewrite-garbage-ratio") whole_of
      old.purge_rewrite_garbage_ratio ≡ Some new.purge_rewrite_garbage_ratio
  pub memory_limit : setting table (codes "memory-limit") (some_of size_of) old.memory_limit
      ≡ Some new.memory_limit
  pub enable_log_recycle : setting table (codes "enable-log-recycle") as_bool
      old.enable_log_recycle ≡ Some new.enable_log_recycle
  pub prefill_for_recycle : setting table (codes "prefill-for-recycle") as_bool
      old.prefill_for_recycle ≡ Some new.prefill_for_recycle
  pub prefill_limit : setting table (codes "prefill-limit") (some_of size_of) old.prefill_limit
      ≡ Some new.prefill_limit

-- a text makes these settings of others: it is a TOML document, and its table does
pub record Reads (text : List ℕ) (old new : Config) : Type 0 where
  pub table : Members
  pub is : parse_document text ≡ Some table
  pub changes : Changes table old new

-- a value is refused where it is no such setting, or for lack of memory
abbrev pub IsValueRefusal : {A : Type 0} → Option A → Fault → Type 0
IsValueRefusal changed (fault.InvalidArgument key) = changed ≡ None
IsValueRefusal changed fault.Memory = Unit {0}
IsValueRefusal changed _ = ⊥

-- a table is refused where it makes no settings of others, or for lack of memory
abbrev pub IsTableRefusal : Members → Config → Fault → Type 0
IsTableRefusal table old (fault.InvalidArgument key) = (new : Config) → Changes table old new → ⊥
IsTableRefusal table old fault.Memory = Unit {0}
IsTableRefusal table old _ = ⊥

-- a text is refused if it makes no settings of others, or if memory runs out
abbrev pub IsReadRefusal : List ℕ → Config → Fault → Type 0
IsReadRefusal text old (fault.InvalidArgument reason) = (new : Config) → Reads text old new → ⊥
IsReadRefusal text old fault.Memory = Unit {0}
IsReadRefusal text old _ = ⊥

-- a text makes these settings of the default ones
abbrev pub ReadsAlone : List ℕ → Config → Type 0
ReadsAlone text new = (default : Config) → IsDefault default → Reads text default new

-- IsReadRefusal, over the default settings
abbrev pub IsLoneReadRefusal : List ℕ → Fault → Type 0
IsLoneReadRefusal text e = (default : Config) → IsDefault default → IsReadRefusal text default e
