-- Groups that stand for contents, after an item.
use Rattle.std.proofs.Common.{◌≡◌, ℕ, Bool, true, false, cond, List, [], ◌∷◌, Option, Some, None, refl, sym, ◌∙◌, ap, subst, nat_eq}
use Rattle.std.specs.Prelude.{◌&&◌, filter, nat_le, unwrap_or}
use Rattle.std.specs.List.Sorted.{IsStrictlySortedBy}
use Rattle.std.specs.Map.{lookup}
use Rattle.std.specs.Cmp.Lexicographic.{slice_cmp}
use Rattle.std.specs.Ordering.{nat_cmp}
use Rattle.std.specs.Str.{bytes_eq}
use Rattle.std.proofs.lemmas.Bool.{cond-true, cond-false, eqb-true, eq-eqb}
use Rattle.raft_records.specs.Contents.{Contents, after_content, after_item, no_contents, with_entries, with_value}
use Rattle.raft_records.specs.Item.{Clean, Compact, Content, Delete, Entries, Entry, Item, Put, group_mark_key}
use Rattle.raft_records.specs.Validity.{content_refusal, entries_refusal}
use Rattle.raft_tables.specs.Listing.{IsListing}
use Rattle.raft_allowed.specs.Held.{AreGroupsOf, Groups, Held, IsHeldAt, Pairs, groups_after, held_after, held_at, if_any, is_nil, is_nothing, nothing, refusal_of, with_held, with_pair, with_pairs}
use Rattle.raft_allowed.proofs.KeyedLemmas.{all-put, bytes_order, lookup-put_other, lookup-put_same, number_order, sorted-put}

-- no groups stand for no contents
pub none_of_none : AreGroupsOf no_contents []
unfolding IsStrictlySortedBy
none_of_none = record {
  ascending = tt;
  each = λ group. record { entries = refl; keys = record { ascending = tt; value = λ key. refl } };
  some = tt;
}

nil_from_test : {X : Type 0} (xs : List X) → is_nil xs ≡ true → xs ≡ []
nil_from_test [] is = refl
nil_from_test (x ∷ xs) is = cc

-- what is tested as nothing is nothing
nothing_from_test : (held : Held) → is_nothing held ≡ true → held ≡ nothing
nothing_from_test held is = at (is_nil held.entries) refl is
  where
    at : (b : Bool) → is_nil held.entries ≡ b → (b && is_nil held.pairs) ≡ true → held ≡ nothing
    at false first both = cc
    at true first both =
        let entries = nil_from_test held.entries first in
        let pairs = nil_from_test held.pairs both in
        ap (λ (es : List Entry). let h : Held = record { entries = es; pairs = held.pairs } in h) entries ∙ ap (λ (ps : Pairs). let h : Held = record { entries = []; pairs = ps } in h) pairs

any_or_nothing : (held : Held) → unwrap_or (if_any held) nothing ≡ held
any_or_nothing held = at (is_nothing held) refl
  where
    at : (b : Bool) → is_nothing held ≡ b → unwrap_or (cond b None (Some held)) nothing ≡ held
    at true is = sym (nothing_from_test held is)
    at false is = refl

any_is_some : (held h : Held) → if_any held ≡ Some h → is_nothing h ≡ false
any_is_some held h is = at (is_nothing held) refl is
  where
    at : (b : Bool) → is_nothing held ≡ b → cond b None (Some held) ≡ Some h → is_nothing h ≡ false
    at true none is = cc
    at false none is = let same : held ≡ h = cc in sym (ap is_nothing same) ∙ none

-- one of the groups, after a change of it, and another
held_at-same : (g group : ℕ) (held : Held) (groups : Groups) → nat_eq g group ≡ true → held_at g (with_held group held groups) ≡ held
held_at-same g group held groups same =
    ap (λ o. unwrap_or o nothing) (lookup-put_same nat_cmp nat_eq number_order g group (if_any held) groups same) ∙ any_or_nothing held

held_at-other : (g group : ℕ) (held : Held) (groups : Groups) → nat_eq g group ≡ false → held_at g (with_held group held groups) ≡ held_at g groups
held_at-other g group held groups differs = ap (λ o. unwrap_or o nothing) (lookup-put_other nat_cmp nat_eq number_order g group (if_any held) groups differs)

-- a pair put among others, where the function has it too
listing_with : (f g : List ℕ → Option (List ℕ)) (key : List ℕ) (value : Option (List ℕ)) (pairs : Pairs) → ((k : List ℕ) → g k ≡ cond (bytes_eq k key) value (f k)) → IsListing f pairs → IsListing g (with_pair key value pairs)
listing_with f g key value pairs is listing = record {
  ascending = sorted-put (slice_cmp nat_cmp) bytes_eq bytes_order key value pairs listing.ascending;
  value = λ k. at k (bytes_eq k key) refl;
}
  where
    at : (k : List ℕ) (b : Bool) → bytes_eq k key ≡ b → lookup (bytes_eq k) (with_pair key value pairs) ≡ g k
    at k true same = lookup-put_same (slice_cmp nat_cmp) bytes_eq bytes_order k key value pairs same ∙ sym (cond-true (bytes_eq k key) value (f k) same) ∙ sym (is k)
    at k false differs = lookup-put_other (slice_cmp nat_cmp) bytes_eq bytes_order k key value pairs differs ∙ listing.value k ∙ sym (cond-false (bytes_eq k key) value (f k) differs) ∙ sym (is k)

same_group : (group : ℕ) → nat_eq group group ≡ true
same_group group = eq-eqb group group refl

-- at its group a value is as in the listing
value_here : (group : ℕ) (key : List ℕ) (value : Option (List ℕ)) (m : Contents) (k : List ℕ) → (with_value group key value m).value group k ≡ cond (bytes_eq k key) value (m.value group k)
value_here group key value m k = ap (λ b. cond (b && bytes_eq k key) value (m.value group k)) (same_group group)

held_with : (m : Contents) (group : ℕ) (held : Held) (key : List ℕ) (value : Option (List ℕ)) → IsHeldAt m group held → IsHeldAt (with_value group key value m) group (with_pairs held (with_pair key value held.pairs))
held_with m group held key value is = record {
  entries = is.entries;
  keys = listing_with (m.value group) ((with_value group key value m).value group) key value held.pairs (value_here group key value m) is.keys;
}

-- what a group has after a change of it
pub held_changed : (m : Contents) (group : ℕ) (content : Content) (held : Held) → IsHeldAt m group held → IsHeldAt (after_content group content m) group (held_after content held)
unfolding IsStrictlySortedBy
held_changed m group (Entries es) held is = record {
  entries = ap (λ l. with_entries l es) is.entries ∙ sym (cond-true (nat_eq group group) (with_entries (m.entries group) es) (m.entries group) (same_group group));
  keys = is.keys;
}
held_changed m group Clean held is = record {
  entries = sym (cond-true (nat_eq group group) [] (m.entries group) (same_group group));
  keys = record {
    ascending = tt;
    value = λ key. sym (cond-true (nat_eq group group) None (m.value group key) (same_group group));
  };
}
held_changed m group (Compact index) held is = record {
  entries = ap (filter (λ e. nat_le index e.0)) is.entries ∙ sym (cond-true (nat_eq group group) (filter (λ e. nat_le index e.0) (m.entries group)) (m.entries group) (same_group group));
  keys = is.keys;
}
held_changed m group (Delete key) held is = held_with m group held key None is
held_changed m group (Put key value) held is = at (bytes_eq key group_mark_key)
  where
    at : (b : Bool) → IsHeldAt (cond b m (with_value group key (Some value) m)) group (cond b held (with_pairs held (with_pair key (Some value) held.pairs)))
    at true = is
    at false = held_with m group held key (Some value) is

-- .. and what another has
other_value : (m : Contents) (g group : ℕ) (key : List ℕ) (value : Option (List ℕ)) (held : Held) → nat_eq g group ≡ false → IsHeldAt m g held → IsHeldAt (with_value group key value m) g held
other_value m g group key value held differs is = record {
  entries = is.entries;
  keys = record {
    ascending = is.keys.ascending;
    value = λ k. is.keys.value k ∙ sym (ap (λ b. cond (b && bytes_eq k key) value (m.value g k)) differs);
  };
}

other_held : (m : Contents) (g group : ℕ) (content : Content) (held : Held) → nat_eq g group ≡ false → IsHeldAt m g held → IsHeldAt (after_content group content m) g held
other_held m g group (Entries es) held differs is = record {
  entries = is.entries ∙ sym (cond-false (nat_eq g group) (with_entries (m.entries group) es) (m.entries g) differs);
  keys = is.keys;
}
other_held m g group Clean held differs is = record {
  entries = is.entries ∙ sym (cond-false (nat_eq g group) [] (m.entries g) differs);
  keys = record {
    ascending = is.keys.ascending;
    value = λ key. is.keys.value key ∙ sym (cond-false (nat_eq g group) None (m.value g key) differs);
  };
}
other_held m g group (Compact index) held differs is = record {
  entries = is.entries ∙ sym (cond-false (nat_eq g group) (filter (λ e. nat_le index e.0) (m.entries group)) (m.entries g) differs);
  keys = is.keys;
}
other_held m g group (Delete key) held differs is = other_value m g group key None held differs is
other_held m g group (Put key value) held differs is = at (bytes_eq key group_mark_key)
  where
    at : (b : Bool) → IsHeldAt (cond b m (with_value group key (Some value) m)) g held
    at true = is
    at false = other_value m g group key (Some value) held differs is

-- the groups after an item
abbrev held_next : Groups → Item → Held
held_next groups item = held_after item.content (held_at item.group groups)

each_next : (m : Contents) (groups : Groups) (item : Item) → AreGroupsOf m groups → (g : ℕ) (b : Bool) → nat_eq g item.group ≡ b → IsHeldAt (after_item m item) g (held_at g (groups_after groups item))
each_next m groups item are g true same =
    let here = held_changed m item.group item.content (held_at item.group groups) (are.each item.group) in
    let is : item.group ≡ g = sym (eqb-true g item.group same) in
    subst (IsHeldAt (after_item m item) g) (sym (held_at-same g item.group (held_next groups item) groups same)) (subst (λ (n : ℕ). IsHeldAt (after_item m item) n (held_next groups item)) is here)
each_next m groups item are g false differs =
    subst (IsHeldAt (after_item m item) g) (sym (held_at-other g item.group (held_next groups item) groups differs)) (other_held m g item.group item.content (held_at g groups) differs (are.each g))

pub groups_changed : (m : Contents) (groups : Groups) (item : Item) → AreGroupsOf m groups → AreGroupsOf (after_item m item) (groups_after groups item)
groups_changed m groups item are = record {
  ascending = sorted-put nat_cmp nat_eq number_order item.group (if_any (held_next groups item)) groups are.ascending;
  each = λ g. each_next m groups item are g (nat_eq g item.group) refl;
  some = all-put nat_cmp nat_eq number_order (λ h. is_nothing h ≡ false) item.group (if_any (held_next groups item)) groups (any_is_some (held_next groups item)) are.some;
}

-- why an item is refused is told from its group
pub refusal_same : (m : Contents) (groups : Groups) (item : Item) → AreGroupsOf m groups → refusal_of (held_at item.group groups) item.content ≡ content_refusal m item.group item.content
refusal_same m groups item are = at item.content
  where
    at : (content : Content) → refusal_of (held_at item.group groups) content ≡ content_refusal m item.group content
    at (Entries es) = ap (λ l. entries_refusal l es) (are.each item.group).entries
    at Clean = refl
    at (Compact index) = refl
    at (Put key value) = refl
    at (Delete key) = refl
