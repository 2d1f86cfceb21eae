-- The default settings.
use Rattle.std.specs.Prelude.{◌≡◌, ◌*◌, ◌^◌, true, false, [], None, option_map}
use Rattle.std.specs.String.{string_bytes}
use Rattle.raft_base.specs.declared.pipe_log.Version.TheVariants.{V2}
use Rattle.raft_config.specs.declared.config.Config.{Config}
use Rattle.raft_config.specs.declared.config.RecoveryMode.TheVariants.{TolerateTailCorruption}

-- the default settings
pub record IsDefault (c : Config) : Type 0 where
  pub dir : string_bytes c.dir ≡ []
  pub spill_dir : c.spill_dir ≡ None
  pub recovery_mode : c.recovery_mode ≡ TolerateTailCorruption
  pub recovery_read_block_size : c.recovery_read_block_size.0 ≡ 16 * 1024
  pub recovery_threads : c.recovery_threads ≡ 4
  pub bytes_per_sync : c.bytes_per_sync ≡ None
  pub format_version : c.format_version ≡ V2
  pub target_file_size : c.target_file_size.0 ≡ 128 * 1024 ^ 2
  pub purge_threshold : c.purge_threshold.0 ≡ 10 * 1024 ^ 3
  pub purge_rewrite_threshold : c.purge_rewrite_threshold ≡ None
  -- in thousandths
  pub purge_rewrite_garbage_ratio : c.purge_rewrite_garbage_ratio ≡ 600
  pub memory_limit : c.memory_limit ≡ None
  pub enable_log_recycle : c.enable_log_recycle ≡ true
  pub prefill_for_recycle : c.prefill_for_recycle ≡ false
  pub prefill_limit : c.prefill_limit ≡ None

-- the same settings, in texts of their own
pub record IsCopy (c copy : Config) : Type 0 where
  pub dir : string_bytes copy.dir ≡ string_bytes c.dir
  pub spill_dir : option_map string_bytes copy.spill_dir ≡ option_map string_bytes c.spill_dir
  pub others : record copy { dir = c.dir; spill_dir = c.spill_dir } ≡ c
