use Rattle.std.proofs.Common.{◌≡◌, ◌∙◌, ◌+◌, ◌/◌, ◌<◌, ◌≤◌, ◌++◌, ◌∷◌, ◌&&◌, append-nil, ap, drop, length, slice_index_or, subst, sym, true, arith, ℕ, Option, List}
use Rattle.std.specs.Prelude.{is_some, nat_eq}
use Rattle.std.specs.List.{list_any}
use Rattle.std.specs.List.Sorted.{IsStrictlySortedBy}
use Rattle.std.specs.Option.{IfSome}
use Rattle.std.specs.Ordering.{nat_cmp}
use Rattle.std.proofs.Math.Nat.{lt-mul-div-succ}
use Rattle.std.proofs.lemmas.Bool.Decides.{nat_tests}
use Rattle.std.proofs.lemmas.List.{at_drop_all, drop_more}
use Rattle.raft_tables.specs.GroupsFrom.{is_between}
use Rattle.raft_tables.specs.Tables.{tables_of}
use Rattle.raft_tables.specs.declared.memtables.MemTables.{MemTables}
use Rattle.raft_purge_rules.specs.NextGroups.{cost_of_group}
use Rattle.raft_purge_rules.proofs.NextGroupsLemmas.{each_of_some, full_before, full_of, next_above, next_of_all, one_of_all, some_before, sorted_front, spent, within_of}
use Rattle.raft_purge_rules.proofs.within_budget.next_groups.Goals as goal

pub returns-in-None-2-clause-value : goal.returns-in-None-2-clause-value
returns-in-None-2-clause-value c =
    let from = c.args.from in
    let next = c.in_ok-first.first.next in
    let all = c.deref-group-items.result.now in
    let at = c.loop-group.group-index in
    let groups = c.loop-group.groups.items in
    let g = slice_index_or all at 0 in
    let ys = drop (at + 1) all in
    let is_known = λ (k : ℕ). is_some (tables_of c.args.tables.now k) in
    let shown : (k : ℕ) → list_any (nat_eq k) all ≡ (is_known k && is_between from next k) = λ k. ap (list_any (nat_eq k)) c.deref-group-items.ensures.value ∙ c.in_ok-first.ensures.value k in
    let split : groups ++ g ∷ ys ≡ all = ap (λ (zs : List ℕ). groups ++ zs) (sym (drop_more all at 0 c.loop-group-test.true)) ∙ c.loop-group.invariant.groups in
    let sorted = subst (IsStrictlySortedBy nat_cmp) (sym c.deref-group-items.ensures.value) c.in_ok-first.ensures.sorted in
    let some : 0 < length groups = grind (arith, nat_tests, c.is_empty.ensures, c.if-is_empty.false) in
    record {
      each = each_of_some from next all is_known shown g groups ys split sorted;
      next = (next_above from next all is_known shown g groups ys split sorted some, (one_of_all from next all is_known shown g groups ys split sorted).0);
      some = some;
    }

pub returns-in-None-2-clause-ascending : goal.returns-in-None-2-clause-ascending
returns-in-None-2-clause-ascending c =
    let all = c.deref-group-items.result.now in
    let rest = drop c.loop-group.group-index all in
    let sorted = subst (IsStrictlySortedBy nat_cmp) (sym c.deref-group-items.ensures.value) c.in_ok-first.ensures.sorted in
    sorted_front c.loop-group.groups.items rest (subst (IsStrictlySortedBy nat_cmp) (sym c.loop-group.invariant.groups) sorted)

least : (watermark : Option ℕ) (m : MemTables) (k : ℕ) → 64 ≤ cost_of_group watermark m k
least watermark m k = omega arith

pub returns-in-None-2-clause-budget : goal.returns-in-None-2-clause-budget
returns-in-None-2-clause-budget c =
    let m = c.args.tables.now in
    let w = c.args.watermark in
    let cost = cost_of_group w m in
    let groups = c.loop-group.groups.items in
    let left = c.loop-group.left in
    let g = slice_index_or c.deref-group-items.result.now c.loop-group.group-index 0 in
    record {
      within = within_of cost (least w m) groups left c.args.budget c.loop-group.invariant.budget;
      full = full_of cost (least w m) groups left c.args.budget g c.loop-group.invariant.budget (spent left (cost g) (sym c.left_after.ensures.value ∙ c.in-None-2.is));
    }

-- all that are left of the first ones
all_of : (xs groups : List ℕ) (at : ℕ) → length xs ≤ at → groups ++ drop at xs ≡ xs → groups ≡ xs
all_of xs groups at ends is = sym (append-nil groups) ∙ sym (at_drop_all (λ (left : List ℕ). groups ++ left) xs at ends) ∙ is

pub returns-clause-value : goal.returns-clause-value
returns-clause-value c =
    let from = c.args.from in
    let next = c.in_ok-first.first.next in
    let all = c.deref-group-items.result.now in
    let groups = c.loop-group.groups.items in
    let limit = c.args.budget / 64 + 1 in
    let is_known = λ (k : ℕ). is_some (tables_of c.args.tables.now k) in
    let ends : length all ≤ c.loop-group.group-index = omega (arith, c.loop-group-test.false) in
    let is = all_of all groups c.loop-group.group-index ends c.loop-group.invariant.groups in
    let shown : (k : ℕ) → list_any (nat_eq k) groups ≡ (is_known k && is_between from next k) = λ k. ap (list_any (nat_eq k)) (is ∙ c.deref-group-items.ensures.value) ∙ c.in_ok-first.ensures.value k in
    let some = subst (λ (xs : List ℕ). IfSome next (λ g. (limit ≤ length xs) × (is_known g ≡ true))) (sym (is ∙ c.deref-group-items.ensures.value)) c.in_ok-first.ensures.next in
    record {
      each = shown;
      next = next_of_all from next groups is_known shown limit (omega arith) some;
      some = some_before next groups (λ g. is_known g ≡ true) limit (omega arith) some;
    }

pub returns-clause-ascending : goal.returns-clause-ascending
returns-clause-ascending c =
    let all = c.deref-group-items.result.now in
    let rest = drop c.loop-group.group-index all in
    let sorted = subst (IsStrictlySortedBy nat_cmp) (sym c.deref-group-items.ensures.value) c.in_ok-first.ensures.sorted in
    sorted_front c.loop-group.groups.items rest (subst (IsStrictlySortedBy nat_cmp) (sym c.loop-group.invariant.groups) sorted)

pub returns-clause-budget : goal.returns-clause-budget
returns-clause-budget c =
    let m = c.args.tables.now in
    let w = c.args.watermark in
    let cost = cost_of_group w m in
    let next = c.in_ok-first.first.next in
    let all = c.deref-group-items.result.now in
    let groups = c.loop-group.groups.items in
    let limit = c.args.budget / 64 + 1 in
    let is_known = λ (k : ℕ). is_some (tables_of m k) in
    let ends : length all ≤ c.loop-group.group-index = omega (arith, c.loop-group-test.false) in
    let is = all_of all groups c.loop-group.group-index ends c.loop-group.invariant.groups in
    let some = subst (λ (xs : List ℕ). IfSome next (λ g. (limit ≤ length xs) × (is_known g ≡ true))) (sym (is ∙ c.deref-group-items.ensures.value)) c.in_ok-first.ensures.next in
    record {
      within = within_of cost (least w m) groups c.loop-group.left c.args.budget c.loop-group.invariant.budget;
      full = full_before cost (least w m) next groups (λ g. is_known g ≡ true) limit c.args.budget (lt-mul-div-succ c.args.budget (omega arith)) some;
    }
