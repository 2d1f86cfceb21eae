-- The values that were fetched of a group are gathered.
use Rattle.std.proofs.Common.{◌≡◌, ℕ, Bool, true, false, cond, List, [], ◌∷◌, ◌++◌, append-nil, append_assoc, Option, Some, None, refl, sym, ◌∙◌, ap, subst}
use Rattle.std.specs.List.{AllByRecursion as Each}
use Rattle.std.specs.List.Sorted.{IsStrictlySortedBy}
use Rattle.std.specs.Cmp.Lexicographic.{bytes_decides, slice_cmp}
use Rattle.std.specs.Map.{keys_of, lookup}
use Rattle.std.specs.Ordering.{is_eq, nat_cmp}
use Rattle.std.specs.Prelude.{option_and_then}
use Rattle.std.specs.Str.{bytes_eq}
use Rattle.std.specs.declared.cmp.Ordering.TheVariants.{Less}
use Rattle.std.proofs.lemmas.Map.Text.{is_eq-slice_cmp}
use Rattle.raft_base.specs.declared.pipe_log.FileId.{FileId}
use Rattle.raft_records.specs.Item.{Put}
use Rattle.raft_records.specs.PlacedItem.{Plain, PlacedItem}
use Rattle.raft_recovery_laws.proofs.EachLemmas.{each_append}
use Rattle.raft_tables.specs.Listing.{IsListing}
use Rattle.raft_tables.specs.MovedEntries.{may_move}
use Rattle.raft_tables.specs.Moving.{value_to_move}
use Rattle.raft_tables.specs.Owed.{Owed}
use Rattle.raft_tables.specs.Table.{StoredValue}
use Rattle.raft_tables.specs.Tables.{Tables, or_empty}
use Rattle.raft_index_laws.specs.Gathering.{IsGathered, SetApart, key_set_by, value_items}
use Rattle.raft_index_laws.specs.Rewriting.{MayMoveKey}
use Rattle.raft_index_laws.proofs.GatherLemmas.{gathered_more}

-- Keys in their order.

other_key : (a b : List ℕ) → slice_cmp nat_cmp a b ≡ Less → (a ≡ b → ⊥)
other_key a b less same = false_true (sym (ap is_eq less) ∙ is_eq-slice_cmp a b ∙ (bytes_decides a b).1 same)
  where
    false_true : false ≡ true → ⊥
    false_true is = cc

-- each pair's key differs from those behind it
abbrev AreOther : List (List ℕ × List ℕ) → Type 0
AreOther [] = Unit {0}
AreOther (p ∷ pairs) = Each (λ q. p.0 ≡ q.0 → ⊥) pairs × AreOther pairs

others_behind : (k : List ℕ) (pairs : List (List ℕ × List ℕ)) → Each (λ y. slice_cmp nat_cmp k y ≡ Less) (keys_of pairs) → Each (λ q. k ≡ q.0 → ⊥) pairs
others_behind k [] less = tt
others_behind k (q ∷ pairs) less = (other_key k q.0 less.0, others_behind k pairs less.1)

are_other : (pairs : List (List ℕ × List ℕ)) → IsStrictlySortedBy (slice_cmp nat_cmp) (keys_of pairs) → AreOther pairs
unfolding IsStrictlySortedBy
are_other [] sorted = tt
are_other (p ∷ pairs) sorted = (others_behind p.0 pairs sorted.0, are_other pairs sorted.1)

-- a pair behind others is found by its key
found_behind : (k v : List ℕ) (pairs rest : List (List ℕ × List ℕ)) → Each (λ q. k ≡ q.0 → ⊥) rest → Each (λ q. lookup (bytes_eq q.0) pairs ≡ Some q.1) rest → Each (λ q. lookup (bytes_eq q.0) ((k, v) ∷ pairs) ≡ Some q.1) rest
found_behind k v pairs [] other found = tt
found_behind k v pairs (q ∷ rest) other found = (at (bytes_eq q.0 k) refl, found_behind k v pairs rest other.1 found.1)
  where
    at : (b : Bool) → bytes_eq q.0 k ≡ b → cond b (Some v) (lookup (bytes_eq q.0) pairs) ≡ Some q.1
    at true is = absurd (other.0 (sym ((bytes_decides q.0 k).0 is)))
    at false is = found.0

all_found : (pairs : List (List ℕ × List ℕ)) → AreOther pairs → Each (λ q. lookup (bytes_eq q.0) pairs ≡ Some q.1) pairs
all_found [] other = tt
all_found (p ∷ pairs) other = (ap (λ b. cond b (Some p.1) (lookup (bytes_eq p.0) pairs)) ((bytes_decides p.0 p.0).1 refl), found_behind p.0 p.1 pairs pairs other.0 (all_found pairs other.1))

-- Values that may move.

may_move_of : (w : Option ℕ) (t : Tables) (group : ℕ) (key value : List ℕ) → value_to_move w (or_empty (t group)) key ≡ Some value → MayMoveKey w t group key value
may_move_of w t group key value is = at ((or_empty (t group)).keys key) refl is
  where
    none_some : (v : List ℕ) → None ≡ Some v → ⊥
    none_some v same = cc

    some_same : (a b : List ℕ) → Some a ≡ Some b → a ≡ b
    some_same a b same = cc

    by : (v : List ℕ) (id : FileId) (b : Bool) → may_move w id ≡ b → (let none : Option (List ℕ) = None in cond b (Some v) none) ≡ Some value → (v ≡ value) × (may_move w id ≡ true)
    by v id true may same = (some_same v value same, may)
    by v id false may same = absurd (none_some value same)

    at : (s : Option StoredValue) → (or_empty (t group)).keys key ≡ s → option_and_then (λ (stored : StoredValue). let none : Option (List ℕ) = None in cond (may_move w stored.1) (Some stored.0) none) s ≡ Some value → MayMoveKey w t group key value
    at None here same = absurd (none_some value same)
    at (Some (v, id)) here same =
        let both = by v id (may_move w id) refl same in
        (id, here ∙ ap (λ (u : List ℕ). let s : Option StoredValue = Some (u, id) in s) both.0, both.1)

each_may : (w : Option ℕ) (t : Tables) (group : ℕ) (all pairs : List (List ℕ × List ℕ)) → ((key : List ℕ) → lookup (bytes_eq key) all ≡ value_to_move w (or_empty (t group)) key) → Each (λ q. lookup (bytes_eq q.0) all ≡ Some q.1) pairs → Each (λ q. MayMoveKey w t group q.0 q.1) pairs
each_may w t group all [] value found = tt
each_may w t group all (p ∷ pairs) value found = (may_move_of w t group p.0 p.1 (sym (value p.0) ∙ found.0), each_may w t group all pairs value found.1)

some_key : (a b : List ℕ) → Some a ≡ Some b → a ≡ b
some_key a b same = cc

none_key : (k : List ℕ) → None ≡ Some k → ⊥
none_key k same = cc

-- an item of the group that sets no key sets something else than each value
apart_from : (group : ℕ) (k v : List ℕ) (items : List PlacedItem) → Each (λ i. i.group ≡ group → (key_set_by i.content ≡ Some k → ⊥)) items → Each (λ i. SetApart i (record { group = group; content = Plain (Put k v) })) items
apart_from group k v [] other = tt
apart_from group k v (i ∷ items) other = (λ same key. other.0 same key, apart_from group k v items other.1)

-- what was gathered, and all values, none of whose keys it sets
add_values : (w : Option ℕ) (owed : Owed) (t : Tables) (group : ℕ) (items : List PlacedItem) (pairs : List (List ℕ × List ℕ)) → IsGathered w owed t items → (owed group).cleaned ≡ false → Each (λ q. Each (λ i. i.group ≡ group → (key_set_by i.content ≡ Some q.0 → ⊥)) items) pairs → AreOther pairs
    → Each (λ q. MayMoveKey w t group q.0 q.1) pairs → IsGathered w owed t (items ++ value_items group pairs)
add_values w owed t group items [] gathered clean apart other may = subst (IsGathered w owed t) (sym (append-nil items)) gathered
add_values w owed t group items (p ∷ pairs) gathered clean apart other may =
    let item : PlacedItem = record { group = group; content = Plain (Put p.0 p.1) } in
    subst (IsGathered w owed t) (append_assoc items (item ∷ []) (value_items group pairs))
    (add_values w owed t group (items ++ item ∷ []) pairs (gathered_more w owed t items item gathered clean may.0 (apart_from group p.0 p.1 items apart.0)) clean (with_item pairs apart.1 other.0) other.1 may.1)
  where
    with_item : (qs : List (List ℕ × List ℕ)) → Each (λ q. Each (λ i. i.group ≡ group → (key_set_by i.content ≡ Some q.0 → ⊥)) items) qs → Each (λ q. p.0 ≡ q.0 → ⊥) qs
        → Each (λ q. Each (λ i. i.group ≡ group → (key_set_by i.content ≡ Some q.0 → ⊥)) (items ++ record { group = group; content = Plain (Put p.0 p.1) } ∷ [])) qs
    with_item [] each differ = tt
    with_item (q ∷ qs) each differ =
        (each_append (λ (i : PlacedItem). i.group ≡ group → (key_set_by i.content ≡ Some q.0 → ⊥)) items (record { group = group; content = Plain (Put p.0 p.1) } ∷ []) each.0 ((λ same key. differ.0 (some_key p.0 q.0 key)), tt), with_item qs each.1 differ.1)

no_key_set : (group : ℕ) (k : List ℕ) (items : List PlacedItem) → Each (λ i. i.group ≡ group → key_set_by i.content ≡ None) items → Each (λ i. i.group ≡ group → (key_set_by i.content ≡ Some k → ⊥)) items
no_key_set group k [] none = tt
no_key_set group k (i ∷ items) none = (λ same key. none_key k (sym (none.0 same) ∙ key), no_key_set group k items none.1)

each_no_key : (group : ℕ) (items : List PlacedItem) (pairs : List (List ℕ × List ℕ)) → Each (λ i. i.group ≡ group → key_set_by i.content ≡ None) items → Each (λ q. Each (λ i. i.group ≡ group → (key_set_by i.content ≡ Some q.0 → ⊥)) items) pairs
each_no_key group items [] none = tt
each_no_key group items (q ∷ pairs) none = (no_key_set group q.0 items none, each_no_key group items pairs none)

pub values_gathered : (watermark : Option ℕ) (owed : Owed) (t : Tables) (group : ℕ) (items : List PlacedItem) (pairs : List (List ℕ × List ℕ)) → IsGathered watermark owed t items → (owed group).cleaned ≡ false → Each (λ i. i.group ≡ group → key_set_by i.content ≡ None) items
    → IsListing (value_to_move watermark (or_empty (t group))) pairs → IsGathered watermark owed t (items ++ value_items group pairs)
values_gathered watermark owed t group items pairs gathered clean none listing =
    let other = are_other pairs listing.ascending in
    add_values watermark owed t group items pairs gathered clean (each_no_key group items pairs none) other (each_may watermark t group pairs pairs listing.value (all_found pairs other))
