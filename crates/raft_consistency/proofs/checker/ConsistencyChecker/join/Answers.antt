use Rattle.std.proofs.Common.{◌≡◌, ◌∷◌, ℕ, nat_eq, ◌∙◌, ap, subst, sym, rules}
use Rattle.std.proofs.lemmas.Map.Keys.{IsDistinct-tail}
use Rattle.std.specs.List.{IsDistinct}
use Rattle.std.specs.Map.{keys_of, lookup}
use Rattle.raft_consistency.specs.Holes.{kept_in, kept_then}
use Rattle.raft_consistency.specs.declared.checker.GroupEntries.{GroupEntries}
use Rattle.raft_consistency.proofs.HoleLemmas.{joined_first}
use Rattle.raft_consistency.proofs.checker.ConsistencyChecker.join.Goals as goal

pub loop-group-init : goal.loop-group-init
loop-group-init c =
    let gives = c.into_iter-group-iterator.ensures.into_iter_gives in
    let all : c.into_iter-group-iterator.result ≡ c.args.newer.groups.entries = search rules in
    record {
      distinct = subst (λ xs. IsDistinct nat_eq (keys_of xs)) (sym gives.0) gives.4;
      kept = λ g. ap (λ es. kept_then (kept_in c.args.self.now g) (lookup (nat_eq g) es)) all;
    }

pub loop-group-preserved : goal.loop-group-preserved
loop-group-preserved c =
    let e : ℕ × GroupEntries = (c.in-Some.group, c.in-Some.entries) in
    let es = c.next.new.self in
    let all : c.loop-group.group-iterator ≡ e ∷ es = search rules in
    let before = c.loop-group.invariant in
    let distinct = subst (λ xs. IsDistinct nat_eq (keys_of xs)) all before.distinct in
    record {
      distinct = IsDistinct-tail nat_eq e.0 (keys_of es) distinct;
      kept = λ g. joined_first e es g (kept_in c.loop-group.self g) (kept_in c.add.new.self g) distinct (c.in_ok-add.ensures.ok g)
          ∙ ap (λ xs. kept_then (kept_in c.loop-group.self g) (lookup (nat_eq g) xs)) (sym all) ∙ before.kept g;
    }
