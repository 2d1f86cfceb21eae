use Rattle.std.proofs.Common.{◌≡◌, ℕ, nat_eq}
use Rattle.std.specs.List.{IsDistinct}
use Rattle.std.specs.Map.{keys_of, lookup}
use Rattle.raft_consistency.specs.Holes.{kept_in, kept_then}
use Rattle.raft_consistency.proofs.checker.ConsistencyChecker.join.Given as goal

-- what is kept so far, and then the groups that are left, is what both kept
abbrev pub invariant-loop-group : goal.invariant-loop-group
invariant-loop-group l = record {
  distinct : IsDistinct nat_eq (keys_of l.group-iterator);
  kept : (g : ℕ) → kept_then (kept_in l.self g) (lookup (nat_eq g) l.group-iterator) ≡ kept_then (kept_in l.fn.self g) (kept_in l.fn.newer g);
}
