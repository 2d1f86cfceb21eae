use Rattle.std.proofs.Common.{◌≡◌, ◌∷◌, ℕ, nat_eq, ◌∙◌, ap, subst, sym, rules}
use Rattle.std.proofs.lemmas.Map.Keys.{IsDistinct-tail}
use Rattle.std.specs.BTreeMap as tree
use Rattle.std.specs.List.{IsDistinct}
use Rattle.std.specs.Map.{keys_of, lookup}
use Rattle.std.specs.Option.{option_or}
use Rattle.std.specs.Ordering.{nat_cmp}
use Rattle.raft_consistency.specs.declared.checker.GroupEntries.{GroupEntries}
use Rattle.raft_consistency.proofs.HoleLemmas.{hole_first, hole_of}
use Rattle.raft_consistency.proofs.checker.ConsistencyChecker.add_holes.Goals as goal

pub loop-group-init : goal.loop-group-init
loop-group-init c =
    let gives = c.into_iter-group-iterator.ensures.into_iter_gives in
    let all : c.into_iter-group-iterator.result ≡ c.args.self.groups.entries = search rules in
    record {
      distinct = subst (λ xs. IsDistinct nat_eq (keys_of xs)) (sym gives.0) gives.4;
      set = λ g. ap (λ es. option_or (hole_of (lookup (nat_eq g) es)) (tree.get nat_cmp c.args.holes.now g)) all;
    }

pub loop-group-preserved : goal.loop-group-preserved
loop-group-preserved c =
    let e : ℕ × GroupEntries = (c.in-Some.group, c.in-Some.entries) in
    let es = c.next.new.self in
    let all : c.loop-group.group-iterator ≡ e ∷ es = search rules in
    let before = c.loop-group.invariant in
    let distinct = subst (λ xs. IsDistinct nat_eq (keys_of xs)) all before.distinct in
    record {
      distinct = IsDistinct-tail nat_eq e.0 (keys_of es) distinct;
      set = λ g. hole_first e es g (tree.get nat_cmp c.loop-group.holes g) (tree.get nat_cmp c.set_hole.new.holes g) distinct (c.in_ok-set_hole.ensures.ok g)
          ∙ ap (λ xs. option_or (hole_of (lookup (nat_eq g) xs)) (tree.get nat_cmp c.loop-group.holes g)) (sym all) ∙ before.set g;
    }
