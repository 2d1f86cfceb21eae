-- Where a shared engine comes from: what no call of it changes.
use Rattle.std.specs.Prelude.{ℕ, Bool}
use Rattle.raft_config.specs.declared.config.Config.{Config}
use Rattle.raft_env.specs.Refusal.{Refusals}
use Rattle.raft_env.specs.declared.env.FileSystem.{Ghosts}
use Rattle.raft_log_engine.specs.Engine.{found_of, settings_of}
use Rattle.raft_records.specs.Contents.{Contents}
use Rattle.raft_shared.specs.Shared.{base_of, engine_of, had_failed, limit_of, refusals_at_new}
use Rattle.raft_shared.specs.declared.shared.Shared.{Shared}

-- what no call of a shared engine changes
pub record Origin : Type 0 where
  -- the settings that it was opened with, and what its opening found
  pub settings : Config
  pub found : Contents
  -- what it held when it was shared, if it had failed, and how many calls of its files had failed
  pub base : Contents
  pub failed : Bool
  pub refusals : Refusals
  -- how many calls its history may have
  pub limit : ℕ

-- the origin of a shared engine
abbrev pub origin_of : {F H R W : Type 0} {g : Ghosts F H R W} → Shared F H R W g → Origin
origin_of shared = record {
  settings = settings_of (engine_of shared);
  found = found_of (engine_of shared);
  base = base_of shared;
  failed = had_failed shared;
  refusals = refusals_at_new shared;
  limit = limit_of shared;
}
