-- The table of settings, read over the default ones, is these settings.
use Rattle.std.proofs.Common.{◌≡◌, ◌<◌, ◌^◌, true, codes, Option, Some, None, option_map, String, Global, string_bytes, refl, ap, ◌∙◌}
use Rattle.raft_base.specs.declared.pipe_log.Version.{Version}
use Rattle.raft_base.specs.declared.pipe_log.Version.TheVariants.{V1, V2}
use Rattle.raft_base.specs.declared.readable_size.ReadableSize.{ReadableSize}
use Rattle.raft_config.specs.Config.{IsDefault}
use Rattle.raft_config.specs.declared.config.Config.{Config}
use Rattle.raft_config.specs.declared.config.RecoveryMode.{RecoveryMode}
use Rattle.raft_config.specs.declared.config.RecoveryMode.TheVariants.{AbsoluteConsistency, TolerateTailCorruption, TolerateAnyCorruption}
use Rattle.toml.specs.Data.{string, boolean, Members, no_members, get_member, as_bool, as_str}
use Rattle.raft_settings.specs.Reading.{Changes, changed_to, mode_of, of_bytes, size_of, some_of, version_of, whole_of}
use Rattle.raft_settings.specs.Writing.{FilesFit, Fits, RecoveryFits, RecyclingFits, mode_name, number_data, size_data, table_of, version_number, with_files, with_recovery, with_recycling, with_setting}
use Rattle.raft_settings.proofs.SizeTextLemmas.{size_in-size_text}
use Rattle.raft_settings.proofs.TableLemmas.{flat_is, flat_with, get_past, get_with, is_flat, is_plain_setting, IsFlat, put_or-none}

size_back : (size : ReadableSize) → size.0 < 2 ^ 64 → size_of (size_data size) ≡ Some size
size_back size fits = ap (option_map of_bytes) (size_in-size_text size.0 fits)

some_size_back : (old size : Option ReadableSize) → old ≡ None → Fits size → changed_to (some_of size_of) old (option_map size_data size) ≡ Some size
some_size_back old None none fits = ap Some none
some_size_back old (Some size) none fits = ap (option_map Some) (size_back size fits)

some_text_back : (old dir : Option (String Global)) → old ≡ None → changed_to (some_of as_str) (option_map string_bytes old) (option_map (λ d. string (string_bytes d)) dir) ≡ Some (option_map string_bytes dir)
some_text_back old None none = ap (λ o. Some (option_map string_bytes o)) none
some_text_back old (Some dir) none = refl

mode_back : (mode : RecoveryMode) → mode_of (string (mode_name mode)) ≡ Some mode
mode_back AbsoluteConsistency = refl
mode_back TolerateTailCorruption = refl
mode_back TolerateAnyCorruption = refl

version_back : (version : Version) → version_of (number_data (version_number version)) ≡ Some version
version_back V1 = refl
version_back V2 = refl

-- what stands at each key
module _ (c : Config) where
  at_dir : get_member (codes "dir") (table_of c) ≡ Some (string (string_bytes c.dir))
  at_dir = simp (get_past, get_with, put_or-none)

  at_spill_dir : get_member (codes "spill-dir") (table_of c) ≡ option_map (λ d. string (string_bytes d)) c.spill_dir
  at_spill_dir = simp (get_past, get_with, put_or-none)

  at_recovery_mode : get_member (codes "recovery-mode") (table_of c) ≡ Some (string (mode_name c.recovery_mode))
  at_recovery_mode = simp (get_past, get_with)

  at_recovery_read_block_size : get_member (codes "recovery-read-block-size") (table_of c) ≡ Some (size_data c.recovery_read_block_size)
  at_recovery_read_block_size = simp (get_past, get_with)

  at_recovery_threads : get_member (codes "recovery-threads") (table_of c) ≡ Some (number_data c.recovery_threads)
  at_recovery_threads = simp (get_past, get_with)

  at_bytes_per_sync : get_member (codes "bytes-per-sync") (table_of c) ≡ option_map size_data c.bytes_per_sync
  at_bytes_per_sync = simp (get_past, get_with, put_or-none)

  at_format_version : get_member (codes "format-version") (table_of c) ≡ Some (number_data (version_number c.format_version))
  at_format_version = simp (get_past, get_with)

  at_target_file_size : get_member (codes "target-file-size") (table_of c) ≡ Some (size_data c.target_file_size)
  at_target_file_size = simp (get_past, get_with)

  at_purge_threshold : get_member (codes "purge-threshold") (table_of c) ≡ Some (size_data c.purge_threshold)
  at_purge_threshold = simp (get_past, get_with)

  at_purge_rewrite_threshold : get_member (codes "purge-rewrite-threshold") (table_of c) ≡ option_map size_data c.purge_rewrite_threshold
  at_purge_rewrite_threshold = simp (get_past, get_with, put_or-none)

  at_purge_rewrite_garbage_ratio : get_member (codes "purge-rewrite-garbage-ratio") (table_of c) ≡ Some (number_data c.purge_rewrite_garbage_ratio)
  at_purge_rewrite_garbage_ratio = simp (get_past, get_with)

  at_memory_limit : get_member (codes "memory-limit") (table_of c) ≡ option_map size_data c.memory_limit
  at_memory_limit = simp (get_past, get_with, put_or-none)

  at_enable_log_recycle : get_member (codes "enable-log-recycle") (table_of c) ≡ Some (boolean c.enable_log_recycle)
  at_enable_log_recycle = simp (get_past, get_with)

  at_prefill_for_recycle : get_member (codes "prefill-for-recycle") (table_of c) ≡ Some (boolean c.prefill_for_recycle)
  at_prefill_for_recycle = simp (get_past, get_with)

  at_prefill_limit : get_member (codes "prefill-limit") (table_of c) ≡ option_map size_data c.prefill_limit
  at_prefill_limit = simp (get_past, get_with, put_or-none)

-- the default settings become these by their table
pub changes_back : (c d : Config) → IsDefault d → RecoveryFits c → FilesFit c → RecyclingFits c → Changes (table_of c) d c
changes_back c d default recovery files recycling = record {
  dir = ap (changed_to as_str (string_bytes d.dir)) (at_dir c);
  spill_dir = ap (changed_to (some_of as_str) (option_map string_bytes d.spill_dir)) (at_spill_dir c) ∙ some_text_back d.spill_dir c.spill_dir default.spill_dir;
  recovery_mode = ap (changed_to mode_of d.recovery_mode) (at_recovery_mode c) ∙ mode_back c.recovery_mode;
  recovery_read_block_size = ap (changed_to size_of d.recovery_read_block_size) (at_recovery_read_block_size c) ∙ size_back c.recovery_read_block_size recovery;
  recovery_threads = ap (changed_to whole_of d.recovery_threads) (at_recovery_threads c);
  bytes_per_sync = ap (changed_to (some_of size_of) d.bytes_per_sync) (at_bytes_per_sync c) ∙ some_size_back d.bytes_per_sync c.bytes_per_sync default.bytes_per_sync recycling.0;
  format_version = ap (changed_to version_of d.format_version) (at_format_version c) ∙ version_back c.format_version;
  target_file_size = ap (changed_to size_of d.target_file_size) (at_target_file_size c) ∙ size_back c.target_file_size files.0;
  purge_threshold = ap (changed_to size_of d.purge_threshold) (at_purge_threshold c) ∙ size_back c.purge_threshold files.1;
  purge_rewrite_threshold = ap (changed_to (some_of size_of) d.purge_rewrite_threshold) (at_purge_rewrite_threshold c) ∙ some_size_back d.purge_rewrite_threshold c.purge_rewrite_threshold default.purge_rewrite_threshold files.2;
  purge_rewrite_garbage_ratio = ap (changed_to whole_of d.purge_rewrite_garbage_ratio) (at_purge_rewrite_garbage_ratio c);
  memory_limit = ap (changed_to (some_of size_of) d.memory_limit) (at_memory_limit c) ∙ some_size_back d.memory_limit c.memory_limit default.memory_limit recycling.1;
  enable_log_recycle = ap (changed_to as_bool d.enable_log_recycle) (at_enable_log_recycle c);
  prefill_for_recycle = ap (changed_to as_bool d.prefill_for_recycle) (at_prefill_for_recycle c);
  prefill_limit = ap (changed_to (some_of size_of) d.prefill_limit) (at_prefill_limit c) ∙ some_size_back d.prefill_limit c.prefill_limit default.prefill_limit recycling.2;
}

-- a table of settings has texts, numbers and truth values alone
plain_size : (size : Option ReadableSize) → is_plain_setting (option_map size_data size) ≡ true
plain_size None = refl
plain_size (Some size) = refl

plain_text : (text : Option (String Global)) → is_plain_setting (option_map (λ d. string (string_bytes d)) text) ≡ true
plain_text None = refl
plain_text (Some text) = refl

flat_recovery : (c : Config) (ms : Members) → is_flat ms ≡ true → is_flat (with_recovery c ms) ≡ true
flat_recovery c ms flat =
    let t0 : Members = with_setting (codes "dir") (Some (string (string_bytes c.dir))) ms in
    let f0 : is_flat t0 ≡ true = flat_with (codes "dir") (Some (string (string_bytes c.dir))) ms refl flat in
    let t1 : Members = with_setting (codes "spill-dir") (option_map (λ d. string (string_bytes d)) c.spill_dir) t0 in
    let f1 : is_flat t1 ≡ true = flat_with (codes "spill-dir") (option_map (λ d. string (string_bytes d)) c.spill_dir) t0 (plain_text c.spill_dir) f0 in
    let t2 : Members = with_setting (codes "recovery-mode") (Some (string (mode_name c.recovery_mode))) t1 in
    let f2 : is_flat t2 ≡ true = flat_with (codes "recovery-mode") (Some (string (mode_name c.recovery_mode))) t1 refl f1 in
    let t3 : Members = with_setting (codes "recovery-read-block-size") (Some (size_data c.recovery_read_block_size)) t2 in
    let f3 : is_flat t3 ≡ true = flat_with (codes "recovery-read-block-size") (Some (size_data c.recovery_read_block_size)) t2 refl f2 in
    flat_with (codes "recovery-threads") (Some (number_data c.recovery_threads)) t3 refl f3

flat_files : (c : Config) (ms : Members) → is_flat ms ≡ true → is_flat (with_files c ms) ≡ true
flat_files c ms flat =
    let t0 : Members = with_setting (codes "format-version") (Some (number_data (version_number c.format_version))) ms in
    let f0 : is_flat t0 ≡ true = flat_with (codes "format-version") (Some (number_data (version_number c.format_version))) ms refl flat in
    let t1 : Members = with_setting (codes "target-file-size") (Some (size_data c.target_file_size)) t0 in
    let f1 : is_flat t1 ≡ true = flat_with (codes "target-file-size") (Some (size_data c.target_file_size)) t0 refl f0 in
    let t2 : Members = with_setting (codes "purge-threshold") (Some (size_data c.purge_threshold)) t1 in
    let f2 : is_flat t2 ≡ true = flat_with (codes "purge-threshold") (Some (size_data c.purge_threshold)) t1 refl f1 in
    let t3 : Members = with_setting (codes "purge-rewrite-threshold") (option_map size_data c.purge_rewrite_threshold) t2 in
    let f3 : is_flat t3 ≡ true = flat_with (codes "purge-rewrite-threshold") (option_map size_data c.purge_rewrite_threshold) t2 (plain_size c.purge_rewrite_threshold) f2 in
    flat_with (codes "purge-rewrite-garbage-ratio") (Some (number_data c.purge_rewrite_garbage_ratio)) t3 refl f3

flat_recycling : (c : Config) (ms : Members) → is_flat ms ≡ true → is_flat (with_recycling c ms) ≡ true
flat_recycling c ms flat =
    let t0 : Members = with_setting (codes "bytes-per-sync") (option_map size_data c.bytes_per_sync) ms in
    let f0 : is_flat t0 ≡ true = flat_with (codes "bytes-per-sync") (option_map size_data c.bytes_per_sync) ms (plain_size c.bytes_per_sync) flat in
    let t1 : Members = with_setting (codes "memory-limit") (option_map size_data c.memory_limit) t0 in
    let f1 : is_flat t1 ≡ true = flat_with (codes "memory-limit") (option_map size_data c.memory_limit) t0 (plain_size c.memory_limit) f0 in
    let t2 : Members = with_setting (codes "enable-log-recycle") (Some (boolean c.enable_log_recycle)) t1 in
    let f2 : is_flat t2 ≡ true = flat_with (codes "enable-log-recycle") (Some (boolean c.enable_log_recycle)) t1 refl f1 in
    let t3 : Members = with_setting (codes "prefill-for-recycle") (Some (boolean c.prefill_for_recycle)) t2 in
    let f3 : is_flat t3 ≡ true = flat_with (codes "prefill-for-recycle") (Some (boolean c.prefill_for_recycle)) t2 refl f2 in
    flat_with (codes "prefill-limit") (option_map size_data c.prefill_limit) t3 (plain_size c.prefill_limit) f3

pub flat_table : (c : Config) → IsFlat (table_of c)
flat_table c = flat_is (table_of c) (flat_recycling c (with_files c (with_recovery c no_members)) (flat_files c (with_recovery c no_members) (flat_recovery c no_members refl)))
