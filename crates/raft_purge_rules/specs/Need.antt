-- When a queue needs a rewriting.
use Rattle.std.specs.Prelude.{ℕ, ◌*◌, nat_lt, ◌&&◌, Bool}
use Rattle.raft_base.specs.declared.readable_size.ReadableSize.{ReadableSize}
use Rattle.raft_purge_rules.specs.declared.need.QueueUse.{QueueUse}
use Rattle.raft_purge_rules.specs.declared.need.RewrittenEntries.{RewrittenEntries}

-- more than one file, and more bytes than the threshold
abbrev pub is_above : QueueUse → ReadableSize → Bool
is_above queue threshold = nat_lt 1 queue.files && nat_lt threshold.0 queue.bytes

-- the Append queue is above its threshold
abbrev pub append_needs_rewrite : QueueUse → ReadableSize → Bool
append_needs_rewrite queue threshold = is_above queue threshold

-- the Rewrite queue is above its threshold, with more garbage than the ratio, in thousandths
abbrev pub rewrite_needs_rewrite : QueueUse → ReadableSize → RewrittenEntries → ℕ → Bool
rewrite_needs_rewrite queue threshold entries ratio =
    is_above queue threshold && nat_lt (ratio * entries.rewritten) (entries.deleted * 1000)
