-- When a queue's log files are to be rewritten.
use Rattle.std.specs.Prelude.{◌+◌, ◌*◌, ◌-◌, ◌^◌, ℕ, min, length, Bool, Option, Some, None, if◌then◌else◌}
use Rattle.std.specs.Option.{option_map}
use Rattle.raft_base.specs.declared.pipe_log.LogQueue.{LogQueue}
use Rattle.raft_base.specs.declared.pipe_log.LogQueue.TheVariants.{Append, Rewrite}
use Rattle.raft_config.specs.Sanitized.{rewrite_threshold}
use Rattle.raft_config.specs.declared.config.Config.{Config}
use Rattle.raft_env.specs.declared.env.FileSystem.{Ghosts}
use Rattle.raft_pipes.specs.PipeState.{last_seq}
use Rattle.raft_purge_rules.specs.Need.{append_needs_rewrite, rewrite_needs_rewrite}
use Rattle.raft_purge_rules.specs.Watermarks.{compact_watermark, rewrite_watermark}
use Rattle.raft_purge_rules.specs.declared.choosing.Needs.{Needs}
use Rattle.raft_purge_rules.specs.declared.choosing.Watermarks.{Watermarks}
use Rattle.raft_purge_rules.specs.declared.need.QueueUse.{QueueUse}
use Rattle.raft_purge_rules.specs.declared.need.RewrittenEntries.{RewrittenEntries}
use Rattle.raft_queues.specs.Dual.{pipe_of}
use Rattle.raft_tables.specs.Counters.{deleted_count, rewritten_count}
use Rattle.raft_log_engine.specs.Engine.{queue_of, settings_of, target_size_of}
use Rattle.raft_log_engine.specs.declared.engine.Engine.{Engine}

-- a queue is above its threshold, and the Rewrite queue has enough garbage too
abbrev pub needs_rewrite : LogQueue → Config → QueueUse → RewrittenEntries → Bool
needs_rewrite Append settings used entries = append_needs_rewrite used settings.purge_threshold
needs_rewrite Rewrite settings used entries = rewrite_needs_rewrite used (rewrite_threshold settings)
    entries settings.purge_rewrite_garbage_ratio

module _ {F H R W : Type 0} {g : Ghosts F H R W} where
  -- how many log files a queue has, and how many bytes if each had the target size, up to 2^64 - 1
  abbrev pub use_of : LogQueue → Engine F H R W g → QueueUse
  use_of queue e =
      let files = length (pipe_of queue e.log.store.pipes).sealed + 1 in
      record { files = files; bytes = min (files * target_size_of e) (2 ^ 64 - 1) }

  -- the entries and values that were placed in the Rewrite queue, and those that left it since
  abbrev pub rewritten_of : Engine F H R W g → RewrittenEntries
  rewritten_of e =
      record { rewritten = rewritten_count e.log.stats; deleted = deleted_count e.log.stats }

  -- the watermarks of a purge of the Append queue, if it is due
  abbrev pub append_watermarks : Engine F H R W g → Option Watermarks
  append_watermarks e =
      let first = (queue_of e).first in
      let last = last_seq (queue_of e) in
      if needs_rewrite Append (settings_of e) (use_of Append e) (rewritten_of e)
      then Some (record { rewrite = rewrite_watermark first last; compact = compact_watermark first last })
      else None

  -- what a purge by watermarks rewrites
  abbrev pub needs_of : Engine F H R W g → Needs
  needs_of e = record {
    rewrite = needs_rewrite Rewrite (settings_of e) (use_of Rewrite e) (rewritten_of e);
    append = append_watermarks e;
  }

  -- up to which file a purge by watermarks rewrites the Append queue, if that is due
  abbrev pub append_rewrite_watermark : Engine F H R W g → Option ℕ
  append_rewrite_watermark e = option_map (λ w. w.rewrite) (needs_of e).append
