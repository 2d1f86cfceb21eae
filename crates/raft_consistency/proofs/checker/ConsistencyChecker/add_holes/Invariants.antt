use Rattle.std.proofs.Common.{◌≡◌, ℕ, nat_eq}
use Rattle.std.specs.BTreeMap as tree
use Rattle.std.specs.List.{IsDistinct}
use Rattle.std.specs.Map.{keys_of, lookup}
use Rattle.std.specs.Option.{option_or}
use Rattle.std.specs.Ordering.{nat_cmp}
use Rattle.raft_consistency.specs.Holes.{hole_in}
use Rattle.raft_consistency.proofs.HoleLemmas.{hole_of}
use Rattle.raft_consistency.proofs.checker.ConsistencyChecker.add_holes.Given as goal

-- the holes so far, below those of the groups that are left
abbrev pub invariant-loop-group : goal.invariant-loop-group
invariant-loop-group l = record {
  distinct : IsDistinct nat_eq (keys_of l.group-iterator);
  set : (g : ℕ) → option_or (hole_of (lookup (nat_eq g) l.group-iterator)) (tree.get nat_cmp l.holes g) ≡ option_or (hole_in l.fn.self g) (tree.get nat_cmp l.fn.holes g);
}
