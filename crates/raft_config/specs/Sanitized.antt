-- Which settings contradict one another, and what is filled in where others are missing.
use Rattle.std.specs.Prelude.{◌≡◌, ◌*◌, ◌/◌, ◌-◌, ◌^◌, ◌==◌, ◌&&◌, ℕ, Bool, true, false, max, min, nat_lt, not, List, codes, Option, Some, None, unwrap_or, if◌then◌else◌}
use Rattle.std.specs.Option.{option_map_or}
use Rattle.std.specs.Str.{bytes_eq}
use Rattle.std.specs.String.{string_bytes}
use Rattle.raft_base.specs.declared.errors.Fault.{Fault}
use Rattle.raft_base.specs.declared.errors.Fault.TheVariants as fault
use Rattle.raft_base.specs.declared.pipe_log.Version.{Version}
use Rattle.raft_base.specs.declared.pipe_log.Version.TheVariants.{V1, V2}
use Rattle.raft_base.specs.declared.readable_size.ReadableSize.{ReadableSize}
use Rattle.raft_config.specs.declared.config.Config.{Config}

-- records are signed for their file, so that a file that is used again shows none of its old ones
abbrev pub is_signed : Version → Bool
is_signed V1 = false
is_signed V2 = true

-- files are used again, and their version allows it
abbrev pub is_recycling : Config → Bool
is_recycling c = c.enable_log_recycle && is_signed c.format_version

-- the second folder is the first
abbrev pub spills_into_dir : Config → Bool
spills_into_dir c =
    option_map_or (λ spill. bytes_eq (string_bytes spill) (string_bytes c.dir)) c.spill_dir false

-- the first contradiction among settings
abbrev pub contradiction : Config → Option (List ℕ)
contradiction c =
    if c.target_file_size.0 == 0 then Some (codes "target-file-size is 0")
    else if nat_lt c.purge_threshold.0 c.target_file_size.0
    then Some (codes "purge-threshold is below target-file-size")
    else if c.enable_log_recycle && not (is_signed c.format_version)
    then Some (codes "enable-log-recycle needs format-version 2")
    else if c.prefill_for_recycle && not c.enable_log_recycle
    then Some (codes "prefill-for-recycle needs enable-log-recycle")
    else if spills_into_dir c then Some (codes "spill-dir is dir")
    else None

-- the fault that names it
abbrev pub IsContradiction : Config → Fault → Type 0
IsContradiction c (fault.InvalidArgument text) = contradiction c ≡ Some text.now
IsContradiction c _ = ⊥

-- the threshold of the Rewrite queue: where none is set a tenth of the other's, and a file at least
abbrev pub rewrite_threshold : Config → ReadableSize
rewrite_threshold c = unwrap_or c.purge_rewrite_threshold
    (record { 0 = max (c.purge_threshold.0 / 10) c.target_file_size.0 })

-- how many bytes of files are made ahead: where no limit is set, as many as the Append queue may
-- have; a limit without prefilling has no meaning
abbrev pub prefill_limit : Config → Option ReadableSize
prefill_limit c =
    if c.prefill_for_recycle then Some (unwrap_or c.prefill_limit c.purge_threshold) else None

-- what is used in the place of these settings
abbrev pub sanitized : Config → Config
sanitized c = record c {
  purge_rewrite_threshold = Some (rewrite_threshold c);
  recovery_read_block_size = record { 0 = max c.recovery_read_block_size.0 512 };
  recovery_threads = max c.recovery_threads 1;
  prefill_limit = prefill_limit c;
}

-- half as many files again as these bytes fill, and none where files have no size
abbrev pub spare_files : ℕ → ℕ → ℕ
spare_files bytes target =
    if target == 0 then 0 else min (bytes / target * 3 / 2) (2 ^ 32 - 1)

-- how many files are kept to be used again
abbrev pub recycle_capacity : Config → ℕ
recycle_capacity c =
    if is_recycling c then spare_files c.purge_threshold.0 c.target_file_size.0 else 0

-- how many of them are made ahead; none without a limit
abbrev pub prefill_capacity : Config → ℕ
prefill_capacity c =
    if is_recycling c && c.prefill_for_recycle
    then spare_files (unwrap_or c.prefill_limit (record { 0 = 0 })).0 c.target_file_size.0
    else 0
