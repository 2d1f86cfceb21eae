-- A text makes the same of any default settings.
use Rattle.std.proofs.Common.{◌≡◌, ℕ, List, codes, Option, Some, option_map, string_bytes, Result, Ok, Err, IfErr, sym, ap, ◌∙◌}
use Rattle.raft_base.specs.declared.errors.Fault.{Fault}
use Rattle.raft_base.specs.declared.errors.Fault.TheVariants as fault
use Rattle.raft_base.specs.declared.readable_size.ReadableSize.{ReadableSize}
use Rattle.raft_config.specs.Config.{IsDefault}
use Rattle.raft_config.specs.declared.config.Config.{Config}
use Rattle.toml.specs.Data.{Data, Members, as_bool, as_str}
use Rattle.raft_settings.specs.Reading.{Changes, IsLoneReadRefusal, IsReadRefusal, Reads, mode_of, of_bytes, setting, size_of, some_of, version_of, whole_of}

same_size : (a b : ReadableSize) (bytes : ℕ) → a.0 ≡ bytes → b.0 ≡ bytes → b ≡ a
same_size a b bytes here there = ap of_bytes (there ∙ sym here)

from_other : {A : Type 0} (table : Members) (key : List ℕ) (read : Data → Option A) (old other : A) (new : Option A) → other ≡ old → setting table key read old ≡ new → setting table key read other ≡ new
from_other table key read old other new same is = ap (λ o. setting table key read o) same ∙ is

changes_alike : (table : Members) (a b new : Config) → IsDefault a → IsDefault b → Changes table a new → Changes table b new
changes_alike table a b new here there h = record {
  dir = from_other table (codes "dir") as_str (string_bytes a.dir) (string_bytes b.dir) (Some (string_bytes new.dir)) (there.dir ∙ sym here.dir) h.dir;
  spill_dir = from_other table (codes "spill-dir") (some_of as_str) (option_map string_bytes a.spill_dir) (option_map string_bytes b.spill_dir) (Some (option_map string_bytes new.spill_dir)) (ap (option_map string_bytes) (there.spill_dir ∙ sym here.spill_dir)) h.spill_dir;
  recovery_mode = from_other table (codes "recovery-mode") mode_of a.recovery_mode b.recovery_mode (Some new.recovery_mode) (there.recovery_mode ∙ sym here.recovery_mode) h.recovery_mode;
  recovery_read_block_size = from_other table (codes "recovery-read-block-size") size_of a.recovery_read_block_size b.recovery_read_block_size (Some new.recovery_read_block_size) (same_size a.recovery_read_block_size b.recovery_read_block_size _ here.recovery_read_block_size there.recovery_read_block_size) h.recovery_read_block_size;
  recovery_threads = from_other table (codes "recovery-threads") whole_of a.recovery_threads b.recovery_threads (Some new.recovery_threads) (there.recovery_threads ∙ sym here.recovery_threads) h.recovery_threads;
  bytes_per_sync = from_other table (codes "bytes-per-sync") (some_of size_of) a.bytes_per_sync b.bytes_per_sync (Some new.bytes_per_sync) (there.bytes_per_sync ∙ sym here.bytes_per_sync) h.bytes_per_sync;
  format_version = from_other table (codes "format-version") version_of a.format_version b.format_version (Some new.format_version) (there.format_version ∙ sym here.format_version) h.format_version;
  target_file_size = from_other table (codes "target-file-size") size_of a.target_file_size b.target_file_size (Some new.target_file_size) (same_size a.target_file_size b.target_file_size _ here.target_file_size there.target_file_size) h.target_file_size;
  purge_threshold = from_other table (codes "purge-threshold") size_of a.purge_threshold b.purge_threshold (Some new.purge_threshold) (same_size a.purge_threshold b.purge_threshold _ here.purge_threshold there.purge_threshold) h.purge_threshold;
  purge_rewrite_threshold = from_other table (codes "purge-rewrite-threshold") (some_of size_of) a.purge_rewrite_threshold b.purge_rewrite_threshold (Some new.purge_rewrite_threshold) (there.purge_rewrite_threshold ∙ sym here.purge_rewrite_threshold) h.purge_rewrite_threshold;
  purge_rewrite_garbage_ratio = from_other table (codes "purge-rewrite-garbage-ratio") whole_of a.purge_rewrite_garbage_ratio b.purge_rewrite_garbage_ratio (Some new.purge_rewrite_garbage_ratio) (there.purge_rewrite_garbage_ratio ∙ sym here.purge_rewrite_garbage_ratio) h.purge_rewrite_garbage_ratio;
  memory_limit = from_other table (codes "memory-limit") (some_of size_of) a.memory_limit b.memory_limit (Some new.memory_limit) (there.memory_limit ∙ sym here.memory_limit) h.memory_limit;
  enable_log_recycle = from_other table (codes "enable-log-recycle") as_bool a.enable_log_recycle b.enable_log_recycle (Some new.enable_log_recycle) (there.enable_log_recycle ∙ sym here.enable_log_recycle) h.enable_log_recycle;
  prefill_for_recycle = from_other table (codes "prefill-for-recycle") as_bool a.prefill_for_recycle b.prefill_for_recycle (Some new.prefill_for_recycle) (there.prefill_for_recycle ∙ sym here.prefill_for_recycle) h.prefill_for_recycle;
  prefill_limit = from_other table (codes "prefill-limit") (some_of size_of) a.prefill_limit b.prefill_limit (Some new.prefill_limit) (there.prefill_limit ∙ sym here.prefill_limit) h.prefill_limit;
}

reads_alike : (text : List ℕ) (a b new : Config) → IsDefault a → IsDefault b → Reads text a new → Reads text b new
reads_alike text a b new here there reads =
    record { table = reads.table; is = reads.is; changes = changes_alike reads.table a b new here there reads.changes }

refusal_alike : (e : Fault) (text : List ℕ) (a b : Config) → IsDefault a → IsDefault b → IsReadRefusal text a e → IsReadRefusal text b e
refusal_alike (fault.InvalidArgument reason) text a b here there refused = λ new reads. refused new (reads_alike text b a new there here reads)
refusal_alike _ text a b here there refused = refused

pub refused_alone : {T : Type 0} (r : Result T Fault) (text : List ℕ) (a : Config) → IsDefault a → IfErr r (IsReadRefusal text a) → IfErr r (IsLoneReadRefusal text)
refused_alone (Ok config) text a here refused = tt
refused_alone (Err e) text a here refused = λ default there. refusal_alike e text a default here there refused
