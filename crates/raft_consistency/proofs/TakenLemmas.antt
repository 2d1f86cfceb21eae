-- What a checker has taken, after more batches.
use Rattle.std.proofs.Common.{◌≡◌, ◌==◌, ℕ, Bool, true, false, cond, List, [], ◌∷◌, ◌++◌, Option, Some, None, refl, sym, ◌∙◌, ap, subst, map, append-nil, append_assoc, nat_eq, arith}
use Rattle.std.proofs.lemmas.Bool.Decides.{nat_tests}
use Rattle.std.proofs.lemmas.Grind.{flat_map-append}
use Rattle.std.specs.Prelude.{nat_lt}
use Rattle.std.specs.BTreeMap as tree
use Rattle.std.specs.BTreeMap.{BTreeMap}
use Rattle.std.specs.Map.{lookup}
use Rattle.std.specs.Option.{option_and_then, option_or}
use Rattle.std.specs.Ordering.{is_eq, nat_cmp}
use Rattle.std.specs.declared.cmp.Ordering.TheVariants.{Less, Equal, Greater}
use Rattle.raft_records.specs.FileBatches.{FileBatch, batches_of}
use Rattle.raft_records.specs.Item.{Batch}
use Rattle.raft_records.specs.LogItem.{item_of, placed_item_of}
use Rattle.raft_records.specs.PlacedItem.{item_in}
use Rattle.raft_records.specs.Places.{Blocks}
use Rattle.raft_records.specs.declared.log_item.LogItem.{LogItem}
use Rattle.raft_files.specs.Blocks.{items_under}
use Rattle.raft_recovery_laws.specs.Recovered.{items_of}
use Rattle.raft_consistency.specs.Holes.{AreHoles, HasTaken, IndexRange, first_hole, hole_in, holes_in, kept_of, kept_then, ranges_by, ranges_of}
use Rattle.raft_consistency.specs.declared.checker.ConsistencyChecker.{ConsistencyChecker}
use Rattle.raft_consistency.specs.declared.checker.GroupEntries.{GroupEntries}
use Rattle.raft_consistency.proofs.HoleLemmas.{kept-append, or_none, ranges_under}

-- the items of two lists of batches
items_join : (older later : List FileBatch) → items_of (batches_of (older ++ later)) ≡ items_of (batches_of older) ++ items_of (batches_of later)
items_join [] later = refl
items_join (b ∷ older) later = ap (λ xs. b.1 ++ xs) (items_join older later) ∙ sym (append_assoc b.1 (items_of (batches_of older)) (items_of (batches_of later)))

ranges_join : (group : ℕ) (older later : List FileBatch) → ranges_of group (items_of (batches_of older)) ++ ranges_of group (items_of (batches_of later)) ≡ ranges_of group (items_of (batches_of (older ++ later)))
ranges_join group older later =
    sym (flat_map-append (ranges_by group) (items_of (batches_of older)) (items_of (batches_of later)))
    ∙ ap (ranges_of group) (sym (items_join older later))

-- older batches, and then later ones
pub taken_join : (group : ℕ) (older later : List FileBatch) (a b new : Option GroupEntries) → new ≡ kept_then a b → a ≡ kept_of (ranges_of group (items_of (batches_of older))) → b ≡ kept_of (ranges_of group (items_of (batches_of later)))
    → new ≡ kept_of (ranges_of group (items_of (batches_of (older ++ later))))
taken_join group older later a b new is a_is b_is =
    let before = ranges_of group (items_of (batches_of older)) in
    is ∙ ap (λ o. kept_then o b) a_is ∙ ap (kept_then (kept_of before)) b_is
    ∙ sym (kept-append before (ranges_of group (items_of (batches_of later)))) ∙ ap kept_of (ranges_join group older later)

without_bytes : (items : List LogItem) → map (item_in (λ _. [])) (map placed_item_of items) ≡ map item_of items
without_bytes [] = refl
without_bytes (i ∷ items) = ap (λ xs. item_of i ∷ xs) (without_bytes items)

one_batch : (group : ℕ) (blocks : Blocks) (seq : ℕ) (items : List LogItem) → ranges_of group (map item_of items) ≡ ranges_of group (items_of (batches_of ((seq, items_under blocks (map placed_item_of items)) ∷ [])))
one_batch group blocks seq items =
    ap (ranges_of group) (sym (without_bytes items)) ∙ sym (ranges_under group blocks (map placed_item_of items))
    ∙ ap (ranges_of group) (sym (append-nil (items_under blocks (map placed_item_of items))))

-- one more batch
pub taken_more : (group : ℕ) (blocks : Blocks) (seq : ℕ) (items : List LogItem) (batches : List FileBatch) (old new : Option GroupEntries) → new ≡ kept_then old (kept_of (ranges_of group (map item_of items))) → old ≡ kept_of (ranges_of group (items_of (batches_of batches)))
    → new ≡ kept_of (ranges_of group (items_of (batches_of (batches ++ (seq, items_under blocks (map placed_item_of items)) ∷ []))))
taken_more group blocks seq items batches old new is was =
    taken_join group batches ((seq, items_under blocks (map placed_item_of items)) ∷ []) old (kept_of (ranges_of group (map item_of items))) new is was
    (ap kept_of (one_batch group blocks seq items))

kept_hole : (rs : List IndexRange) → option_and_then (λ (k : GroupEntries). k.hole) (kept_of rs) ≡ first_hole rs
kept_hole [] = refl
kept_hole (r ∷ rs) = refl

-- the hole that a checker found
pub hole_of_taken : (batches : List Batch) (checker : ConsistencyChecker) → HasTaken batches checker → (group : ℕ) → hole_in checker group ≡ holes_in batches group
hole_of_taken batches checker taken group = ap (option_and_then (λ (k : GroupEntries). k.hole)) (taken group) ∙ kept_hole (ranges_of group (items_of batches))

-- Lists of holes.

pub holes_same : (f g : ℕ → Option ℕ) (pairs : List (ℕ × ℕ)) → ((n : ℕ) → f n ≡ g n) → AreHoles f pairs → AreHoles g pairs
holes_same f g pairs same are = record { ascending = are.ascending; value = λ n. are.value n ∙ same n }

below_apart : (a b : ℕ) → nat_lt a b ≡ true → (a == b) ≡ false
below_apart a b below = grind (arith, nat_tests)

tests_same : (p q : Bool) → (p ≡ true → q ≡ false) → q ≡ is_eq (cond p Less (cond q Equal Greater))
tests_same true q apart = apart refl
tests_same false true apart = refl
tests_same false false apart = refl

lookup_same : (group : ℕ) (es : List (ℕ × ℕ)) → lookup (nat_eq group) es ≡ lookup (tree.is_at (nat_cmp group)) es
lookup_same group [] = refl
lookup_same group (e ∷ es) =
    ap (λ b. cond b (Some e.1) (lookup (nat_eq group) es)) (tests_same (nat_lt group e.0) (group == e.0) (below_apart group e.0))
    ∙ ap (cond (is_eq (nat_cmp group e.0)) (Some e.1)) (lookup_same group es)

-- the pairs of an ordered map
pub holes_listed : (holes : BTreeMap ℕ ℕ) (pairs : List (ℕ × ℕ)) → tree.IsOrdered nat_cmp holes → pairs ≡ holes.entries → AreHoles (tree.get nat_cmp holes) pairs
holes_listed holes pairs ordered is =
    subst (AreHoles (tree.get nat_cmp holes)) (sym is) (record { ascending = ordered; value = λ group. lookup_same group holes.entries })

-- two maps of holes, the second one's over the first one's
pub over_none : (a b before after first_of_all : Option ℕ) → after ≡ option_or b before → before ≡ option_or a first_of_all → first_of_all ≡ None → after ≡ option_or b a
over_none a b before after first_of_all second first empty = second ∙ ap (option_or b) (first ∙ ap (option_or a) empty ∙ or_none a)
