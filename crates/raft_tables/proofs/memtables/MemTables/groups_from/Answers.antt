use Rattle.std.proofs.Common.{◌≡◌, ◌∙◌, ◌≤◌, ◌⊎◌, ◌∷◌, ◌&&◌, [], List, Bool, None, Some, ap, inl, inr, length, nat_eq, subst, sym, true, ℕ}
use Rattle.std.specs.HashMap as hash
use Rattle.std.specs.List.{IsDistinct, list_any}
use Rattle.std.specs.Option.{IfSome}
use Rattle.std.proofs.lemmas.List.Sorted.{list_any-IsPermutation}
use Rattle.raft_tables.specs.GroupsFrom.{IsFront, is_between}
use Rattle.raft_tables.specs.Table.{table_of}
use Rattle.raft_tables.specs.declared.groups_from.FirstGroups.{FirstGroups}
use Rattle.raft_tables.proofs.GroupsFromLemmas.{AreFound, all_found, found_next, longer, none_found, passed_over, pushed}
use Rattle.raft_tables.proofs.ListingLemmas.{ascending_of_sorted, is_some-map}
use Rattle.raft_tables.proofs.memtables.MemTables.groups_from.Goals as goal

pub loop-group-init : goal.loop-group-init
loop-group-init c =
    let from = c.args.from in
    let keys = hash.keys c.args.self.now.tables in
    let is : c.into_iter-group-iterator.result ≡ keys = c.into_iter-group-iterator.ensures.into_iter_gives ∙ c.keys-group-items.ensures.rest in
    record {
      found = subst (λ (xs : List ℕ). AreFound from None keys xs c.into_iter-group-iterator.result) (sym c.new.ensures.items) (subst (AreFound from None keys []) (sym is) (none_found from None keys c.keys-group-items.ensures.unique));
      next = tt;
    }

pub cut-requires : goal.cut-requires
cut-requires c =
    let from = c.args.from in
    let keys = hash.keys c.args.self.now.tables in
    let found = c.loop-group.found.groups.items in
    let next = c.loop-group.found.next in
    let g = c.in-Some.group.now in
    let steps : c.loop-group.group-iterator ≡ g ∷ c.next.new.self = c.in-Some.ensures.steps in
    let on : is_between from next g ≡ true = sym c.takes.ensures.value ∙ c.if-takes.true in
    let was = pushed from next keys found g c.next.new.self on (subst (AreFound from next keys found) steps c.loop-group.invariant.found) in
    subst (λ (xs : List ℕ). IsDistinct nat_eq xs) (sym c.in_ok-push.ensures.items) was.distinct

pub loop-group-preserved-then-takes : goal.loop-group-preserved-then-takes
loop-group-preserved-then-takes c =
    let from = c.args.from in
    let limit = c.args.limit in
    let keys = hash.keys c.args.self.now.tables in
    let found = c.loop-group.found.groups.items in
    let next = c.loop-group.found.next in
    let rest = c.next.new.self in
    let more = c.push.new.self.items in
    let left = c.cut.new.self in
    let g = c.in-Some.group.now in
    let steps : c.loop-group.group-iterator ≡ g ∷ rest = c.in-Some.ensures.steps in
    let on : is_between from next g ≡ true = sym c.takes.ensures.value ∙ c.if-takes.true in
    let was = subst (λ (xs : List ℕ). AreFound from next keys xs rest) (sym c.in_ok-push.ensures.items) (pushed from next keys found g rest on (subst (AreFound from next keys found) steps c.loop-group.invariant.found)) in
    let is_key = λ (k : ℕ). list_any (nat_eq k) keys ≡ true in
    let some = subst (λ (xs : List ℕ). IfSome next (λ k. (limit ≤ length xs) × is_key k)) (sym c.in_ok-push.ensures.items) (longer limit g next is_key found c.loop-group.invariant.next) in
    let cut : ((left.next ≡ next) × (left.groups.items ≡ more)) ⊎ ((mid : ℕ) × (left.next ≡ Some mid) × (limit ≤ length left.groups.items) × IsFront more left.groups.items mid) = elim c.cut.ensures.full [
      | inl same ↦ inl (ap (λ (f : FirstGroups). f.next) same, ap (λ (f : FirstGroups). f.groups.items) same)
      | inr split ↦ inr split
    ] in
    let after = found_next from limit next left.next keys more left.groups.items rest was some cut in
    record { found = after.0; next = after.1 }

pub loop-group-preserved : goal.loop-group-preserved
loop-group-preserved c =
    let from = c.args.from in
    let keys = hash.keys c.args.self.now.tables in
    let found = c.loop-group.found.groups.items in
    let next = c.loop-group.found.next in
    let g = c.in-Some.group.now in
    let steps : c.loop-group.group-iterator ≡ g ∷ c.next.new.self = c.in-Some.ensures.steps in
    record {
      found = passed_over from next keys found g c.next.new.self (sym c.takes.ensures.value ∙ c.if-takes.false) (subst (AreFound from next keys found) steps c.loop-group.invariant.found);
      next = c.loop-group.invariant.next;
    }

pub returns-clause-sorted : goal.returns-clause-sorted
returns-clause-sorted c = ascending_of_sorted c.loop-group.found.groups.items c.sort_unstable.new.self.items c.sort_unstable.ensures.permutation c.loop-group.invariant.found.distinct c.sort_unstable.ensures.sorted

pub returns-clause-value : goal.returns-clause-value
returns-clause-value c = λ g.
    let from = c.args.from in
    let keys = hash.keys c.args.self.now.tables in
    let found = c.loop-group.found.groups.items in
    let next = c.loop-group.found.next in
    let none : c.loop-group.group-iterator ≡ [] = c.in-None.ensures.steps.0 in
    let all = all_found from next keys found (subst (AreFound from next keys found) none c.loop-group.invariant.found) g in
    let known = ap (list_any (nat_eq g)) (sym c.keys-group-items.ensures.rest) ∙ sym (c.keys-group-items.ensures.has g) ∙ sym (is_some-map table_of (hash.get nat_eq c.args.self.now.tables g)) in
    sym (list_any-IsPermutation (nat_eq g) found c.sort_unstable.new.self.items c.sort_unstable.ensures.permutation) ∙ all ∙ ap (λ (b : Bool). b && is_between from next g) known
