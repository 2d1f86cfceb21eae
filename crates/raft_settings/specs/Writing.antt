-- The table that is written for settings.
use Rattle.std.specs.Prelude.{◌⊎◌, ◌==◌, ◌||◌, ◌++◌, ◌/◌, ◌%◌, ◌^◌, ◌<◌, ◌≤◌, ℕ, not, pos, List, codes, Option, Some, None, option_map, if◌then◌else◌}
use Rattle.std.specs.Fmt.{decimal}
use Rattle.std.specs.Ordering.{nat_cmp, match_ordering}
use Rattle.std.specs.Cmp.Lexicographic.{slice_cmp}
use Rattle.std.specs.String.{string_bytes}
use Rattle.raft_base.specs.declared.errors.Fault.{Fault}
use Rattle.raft_base.specs.declared.errors.Fault.TheVariants as fault
use Rattle.raft_base.specs.declared.pipe_log.Version.{Version}
use Rattle.raft_base.specs.declared.pipe_log.Version.TheVariants.{V1, V2}
use Rattle.raft_base.specs.declared.readable_size.ReadableSize.{ReadableSize}
use Rattle.raft_config.specs.declared.config.Config.{Config}
use Rattle.raft_config.specs.declared.config.RecoveryMode.{RecoveryMode}
use Rattle.raft_config.specs.declared.config.RecoveryMode.TheVariants.{AbsoluteConsistency, TolerateTailCorruption, TolerateAnyCorruption}
use Rattle.toml.specs.Data.{Data, string, integer, boolean, Members, no_members, member}

-- the members, with this one in the order of their keys
abbrev pub with_member : List ℕ → Data → Members → Members
with_member key value no_members = member key value no_members
with_member key value (member other held rest) = match_ordering (slice_cmp nat_cmp key other)
    (member key value (member other held rest))
    (member other value rest)
    (member other held (with_member key value rest))

-- with_member, if there is a value
abbrev pub with_setting : List ℕ → Option Data → Members → Members
with_setting key None table = table
with_setting key (Some value) table = with_member key value table

-- the greatest unit that divides a size, and how it is written
abbrev pub size_text : ℕ → List ℕ
size_text bytes =
    if bytes == 0 || not (bytes % 2 ^ 10 == 0) then decimal bytes ++ codes "B"
    else if not (bytes % 2 ^ 20 == 0) then decimal (bytes / 2 ^ 10) ++ codes "KB"
    else if not (bytes % 2 ^ 30 == 0) then decimal (bytes / 2 ^ 20) ++ codes "MB"
    else decimal (bytes / 2 ^ 30) ++ codes "GB"

-- a size as text
abbrev pub size_data : ReadableSize → Data
size_data size = string (size_text size.0)

-- the name of a recovery mode
abbrev pub mode_name : RecoveryMode → List ℕ
mode_name AbsoluteConsistency = codes "absolute-consistency"
mode_name TolerateTailCorruption = codes "tolerate-corrupted-tail-records"
mode_name TolerateAnyCorruption = codes "tolerate-any-corruption"

-- the number of a version
abbrev pub version_number : Version → ℕ
version_number V1 = 1
version_number V2 = 2

-- a number as data
abbrev pub number_data : ℕ → Data
number_data number = integer (pos number)

-- the keys of folders and recovery
abbrev pub with_recovery : Config → Members → Members
with_recovery c table =
    with_setting (codes "recovery-threads") (Some (number_data c.recovery_threads))
    (with_setting (codes "recovery-read-block-size")
    (Some (size_data c.recovery_read_block_size))
    (with_setting (codes "recovery-mode") (Some (string (mode_name c.recovery_mode)))
    (with_setting (codes "spill-dir") (option_map (λ d. string (string_bytes d)) c.spill_dir)
    (with_setting (codes "dir") (Some (string (string_bytes c.dir))) table))))

-- the keys of files and their purge
abbrev pub with_files : Config → Members → Members
with_files c table =
    with_setting (codes "purge-rewrite-garbage-ratio")
    (Some (number_data c.purge_rewrite_garbage_ratio))
    (with_setting (codes "purge-rewrite-threshold")
    (option_map size_data c.purge_rewrite_threshold)
    (with_setting (codes "purge-threshold") (Some (size_data c.purge_threshold))
    (with_setting (codes "target-file-size") (Some (size_data c.target_file_size))
    (with_setting (codes "format-version") (Some (number_data (version_number c.format_version)))
    table))))

-- the keys of files that are used again, and those that are read and ignored
abbrev pub with_recycling : Config → Members → Members
with_recycling c table =
    with_setting (codes "prefill-limit") (option_map size_data c.prefill_limit)
    (with_setting (codes "prefill-for-recycle") (Some (boolean c.prefill_for_recycle))
    (with_setting (codes "enable-log-recycle") (Some (boolean c.enable_log_recycle))
    (with_setting (codes "memory-limit") (option_map size_data c.memory_limit)
    (with_setting (codes "bytes-per-sync") (option_map size_data c.bytes_per_sync) table))))

-- a key for each setting that isn't missing
abbrev pub table_of : Config → Members
table_of c = with_recycling c (with_files c (with_recovery c no_members))

-- the size, if there is one, is a u64
abbrev pub Fits : Option ReadableSize → Type 0
Fits None = Unit {0}
Fits (Some size) = size.0 < 2 ^ 64

-- the sizes of with_recovery are u64
abbrev pub RecoveryFits : Config → Type 0
RecoveryFits c = Fits (Some c.recovery_read_block_size)

-- the sizes of with_files are u64
abbrev pub FilesFit : Config → Type 0
FilesFit c = Fits (Some c.target_file_size) × Fits (Some c.purge_threshold)
    × Fits c.purge_rewrite_threshold

-- the sizes of with_recycling are u64
abbrev pub RecyclingFits : Config → Type 0
RecyclingFits c = Fits c.bytes_per_sync × Fits c.memory_limit × Fits c.prefill_limit

-- TOML has no number from 2 ^ 63 on
abbrev pub IsNumberRefusal : ℕ → Fault → Type 0
IsNumberRefusal number (fault.InvalidArgument reason) = 2 ^ 63 ≤ number
IsNumberRefusal number fault.Memory = Unit {0}
IsNumberRefusal number _ = ⊥

-- settings have a number that is no size's and greater than that
abbrev pub IsWriteRefusal : Config → Fault → Type 0
IsWriteRefusal c (fault.InvalidArgument reason) =
    (2 ^ 63 ≤ c.recovery_threads) ⊎ (2 ^ 63 ≤ c.purge_rewrite_garbage_ratio)
IsWriteRefusal c fault.Memory = Unit {0}
IsWriteRefusal c _ = ⊥
