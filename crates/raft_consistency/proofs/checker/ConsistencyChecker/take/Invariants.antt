use Rattle.std.proofs.Common.{◌≡◌, ℕ, map, take}
use Rattle.raft_records.specs.LogItem.{item_of}
use Rattle.raft_consistency.specs.Holes.{kept_in, kept_of, kept_then, ranges_of}
use Rattle.raft_consistency.proofs.checker.ConsistencyChecker.take.Given as goal

-- of each group what it had, and then the items so far
abbrev pub invariant-loop-item : goal.invariant-loop-item
invariant-loop-item l = (group : ℕ) → kept_in l.self group ≡ kept_then (kept_in l.fn.self group) (kept_of (ranges_of group (map item_of (take l.item-index l.items))))
