use Rattle.std.proofs.Common.{ap}
use Rattle.std.proofs.lemmas.Result.{IfOk-weaker}
use Rattle.std.specs.BTreeMap as tree
use Rattle.std.specs.Map.{lookup}
use Rattle.std.specs.Option.{option_or}
use Rattle.std.specs.Ordering.{nat_cmp}
use Rattle.raft_consistency.specs.Holes.{hole_in}
use Rattle.raft_consistency.proofs.TakenLemmas.{holes_same, over_none}
use Rattle.raft_consistency.proofs.check.holes_of_both.Goals as goal

pub returns : goal.returns
returns c = record {
  value = IfOk-weaker c.listed.result _ _ (λ pairs are.
      holes_same _ (λ group. option_or (hole_in c.args.rewritten group) (hole_in c.args.appended group)) pairs.items
      (λ group. over_none (hole_in c.args.appended group) (hole_in c.args.rewritten group) (tree.get nat_cmp c.add_holes.new.holes group) (tree.get nat_cmp c.add_holes-2.new.holes group) (tree.get nat_cmp c.new-holes.result group)
      (c.in_ok-add_holes-2.ensures.ok group) (c.in_ok-add_holes.ensures.ok group) (ap (lookup (tree.is_at (nat_cmp group))) c.new-holes.ensures.empty)) are) c.listed.ensures.value;
}
