use Rattle.std.proofs.Common.{◌≡◌, length}
use Rattle.std.specs.List.{filter}
use Rattle.raft_entry_blocks.specs.Recent.{is_from}
use Rattle.raft_entry_blocks.proofs.recent_blocks.pop_oldest_before.Given as goal

abbrev pub invariant-loop-handle : goal.invariant-loop-handle
invariant-loop-handle l =
    (filter (is_from l.append l.rewrite) l.blocks.entries ≡ filter (is_from l.append l.rewrite) l.fn.blocks.entries) × (l.blocks.cap ≡ l.fn.blocks.cap)

abbrev pub decreases-loop-handle : goal.decreases-loop-handle
decreases-loop-handle l = length l.blocks.entries
