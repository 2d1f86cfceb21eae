use Rattle.std.proofs.Common.{◌≡◌, ◌∙◌, ◌≤◌, ◌++◌, List, append-nil, arith, length, subst, sym, ℕ}
use Rattle.std.proofs.lemmas.List.{at_drop_all}
use Rattle.std.specs.List.Sorted.{IsStrictlySortedBy}
use Rattle.std.specs.Ordering.{nat_cmp}
use Rattle.raft_purge_rules.specs.Choosing.{groups_by}
use Rattle.raft_purge_rules.specs.declared.choosing.Decision.{Decision}
use Rattle.raft_purge_rules.proofs.ChoosingLemmas.{chosen_ascending}
use Rattle.raft_purge_rules.proofs.choosing.groups_by.Goals as goal

pub returns-clause-ascending : goal.returns-clause-ascending
returns-clause-ascending c = λ sorted.
    let ds = c.args.decisions.now in
    let items = c.loop-decision.groups.items in
    let ends : length ds ≤ c.loop-decision.decision-index = omega (arith, c.loop-decision-test.false) in
    subst (IsStrictlySortedBy nat_cmp) (sym (sym (append-nil items) ∙ sym (at_drop_all (λ (left : List Decision). items ++ groups_by c.args.chosen left) ds c.loop-decision.decision-index ends) ∙ c.loop-decision.invariant)) (chosen_ascending c.args.chosen ds sorted)
