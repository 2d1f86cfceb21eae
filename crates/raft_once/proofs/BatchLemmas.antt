-- Batches with and without numbers, and why they are refused.
use Rattle.std.proofs.Common.{◌≡◌, ℕ, zero, suc, ◌+◌, ◌&&◌, ◌||◌, Bool, true, false, cond, List, [], ◌∷◌, map, take, Option, Some, None, is_none, option_map, refl, sym, ◌∙◌, ap, subst, arith, inl, inr}
use Rattle.std.proofs.lemmas.Bool.{or_parts, cases_Bool}
use Rattle.std.proofs.lemmas.List.{take-map}
use Rattle.raft_base.specs.declared.errors.Fault.{Fault}
use Rattle.raft_records.specs.Contents.{Contents, after_item}
use Rattle.raft_records.specs.Item.{Item, Batch}
use Rattle.raft_records.specs.LogItem.{placed_item_of}
use Rattle.raft_records.specs.PlacedItem.{item_in}
use Rattle.raft_records.specs.Places.{Blocks}
use Rattle.raft_records.specs.Validity.{batch_refusal, content_refusal}
use Rattle.raft_records.specs.declared.log_item.LogItem.{LogItem}
use Rattle.raft_once.specs.Numbers.{Pair, changes_number, has_numbers, meets_number, number_item, number_items, number_place, numbered}

-- The first item that changes a number.

no_place : (b : Bool) (o : Option ℕ) (h : Bool) → (o ≡ None → h ≡ false) → cond b (Some 0) (option_map (λ n. n + 1) o) ≡ None → (b || h) ≡ false
no_place true o h rest none = absurd cc
no_place false None h rest none = rest refl
no_place false (Some n) h rest none = absurd cc

-- there is none
pub plain_without_place : (items : Batch) → number_place items ≡ None → has_numbers items ≡ false
plain_without_place [] none = refl
plain_without_place (item ∷ items) none = no_place (changes_number item.content) (number_place items) (has_numbers items) (plain_without_place items) none

pub none_in_plain : (items : Batch) → has_numbers items ≡ false → number_place items ≡ None
none_in_plain [] plain = refl
none_in_plain (item ∷ items) plain =
    let parts = or_parts (changes_number item.content) (has_numbers items) plain in
    rw (parts.0, none_in_plain items parts.1) refl

-- A batch is refused as a front of it is.

refused_first : (m : Contents) (item : Item) (items : Batch) (e : Fault) → content_refusal m item.group item.content ≡ Some e → batch_refusal m (item ∷ items) ≡ Some e
refused_first m item items e first = rw first refl

later_refusal : (m : Contents) (item : Item) (items : Batch) → content_refusal m item.group item.content ≡ None → batch_refusal m (item ∷ items) ≡ batch_refusal (after_item m item) items
later_refusal m item items first = rw first refl

same_refusal : (m : Contents) (item : Item) (items others : Batch) → batch_refusal (after_item m item) items ≡ batch_refusal (after_item m item) others → batch_refusal m (item ∷ items) ≡ batch_refusal m (item ∷ others)
same_refusal m item items others same = rw same refl

pub front_refusal : (m : Contents) (items : Batch) (n : ℕ) (e : Fault) → batch_refusal m (take n items) ≡ Some e → batch_refusal m items ≡ Some e
front_refusal m items zero e refused = absurd cc
front_refusal m [] (suc n) e refused = refused
front_refusal m (item ∷ items) (suc n) e refused = at (content_refusal m item.group item.content) refl (front_refusal (after_item m item) items n e)
  where
    at : (o : Option Fault) → content_refusal m item.group item.content ≡ o → (batch_refusal (after_item m item) (take n items) ≡ Some e → batch_refusal (after_item m item) items ≡ Some e) → batch_refusal m (item ∷ items) ≡ Some e
    at None first later = later_refusal m item items first ∙ later (sym (later_refusal m item (take n items) first) ∙ refused)
    at (Some f) first later = refused_first m item items f first ∙ sym (refused_first m item (take n items) f first) ∙ refused

-- the same, of the items of the list that is checked
pub front_in : (blocks : Blocks) (n : ℕ) (items : List LogItem) → map (item_in blocks) (map placed_item_of (take n items)) ≡ take n (map (item_in blocks) (map placed_item_of items))
front_in blocks n items = ap (map (item_in blocks)) (sym (take-map placed_item_of n items)) ∙ sym (take-map (item_in blocks) n (map placed_item_of items))

-- Numbers behind the items change no refusal.

numbers_are_valid : (m : Contents) (pairs : List Pair) → batch_refusal m (number_items pairs) ≡ None
numbers_are_valid m [] = refl
numbers_are_valid m (p ∷ ps) = numbers_are_valid (after_item m (number_item p)) ps

pub numbered_refusal : (m : Contents) (items : Batch) (pairs : List Pair) → batch_refusal m (numbered items pairs) ≡ batch_refusal m items
numbered_refusal m [] pairs = numbers_are_valid m pairs
numbered_refusal m (item ∷ items) pairs = same_refusal m item (numbered items pairs) items (numbered_refusal (after_item m item) items pairs)

-- Whether a number's item is met before one that doesn't fit.

pub plain_meets_none : (m : Contents) (items : Batch) → has_numbers items ≡ false → meets_number m items ≡ false
plain_meets_none m [] plain = refl
plain_meets_none m (item ∷ items) plain =
    let parts = or_parts (changes_number item.content) (has_numbers items) plain in
    rw (parts.0, plain_meets_none (after_item m item) items parts.1) (neither (is_none (content_refusal m item.group item.content)))
  where
    neither : (b : Bool) → (b && false) ≡ false
    neither true = refl
    neither false = refl

-- the place is one further on, or this one
later_place : (b : Bool) (o : Option ℕ) (place : ℕ) → b ≡ false → cond b (Some 0) (option_map (λ n. n + 1) o) ≡ Some place → (n : ℕ) × (o ≡ Some n) × (place ≡ suc n)
later_place b None place off is = let none = rw off at is in absurd (cc)
later_place b (Some n) place off is = let some : Some (n + 1) ≡ Some place = rw off at is in (n, refl, sym (same_place some) ∙ one_more n)
  where
    same_place : {x y : ℕ} → Some x ≡ Some y → x ≡ y
    same_place e = cc

    one_more : (n : ℕ) → n + 1 ≡ suc n
    one_more n = omega arith

this_place : (b : Bool) (o : Option ℕ) (place : ℕ) → b ≡ true → cond b (Some 0) (option_map (λ n. n + 1) o) ≡ Some place → place ≡ 0
this_place b o place on is = let zero_is : Some 0 ≡ Some place = rw on at is in cc

meets_first : (m : Contents) (item : Item) (items : Batch) → changes_number item.content ≡ true → meets_number m (item ∷ items) ≡ true
meets_first m item items number = rw number refl

meets_later : (m : Contents) (item : Item) (items : Batch) → changes_number item.content ≡ false → content_refusal m item.group item.content ≡ None → meets_number m (item ∷ items) ≡ meets_number (after_item m item) items
meets_later m item items plain first = rw (plain, first) refl

meets_refused : (m : Contents) (item : Item) (items : Batch) (e : Fault) → changes_number item.content ≡ false → content_refusal m item.group item.content ≡ Some e → meets_number m (item ∷ items) ≡ false
meets_refused m item items e plain first = rw (plain, first) refl

-- those before it fit
pub met_after_front : (m : Contents) (items : Batch) (place : ℕ) → number_place items ≡ Some place → batch_refusal m (take place items) ≡ None → meets_number m items ≡ true
met_after_front m [] place is fits = absurd cc
met_after_front m (item ∷ items) place is fits =
    elim (cases_Bool (changes_number item.content)) [
      | inl number ↦ meets_first m item items number
      | inr plain ↦
          let found = later_place (changes_number item.content) (number_place items) place plain is in
          at found.0 found.2 (content_refusal m item.group item.content) plain refl (met_after_front (after_item m item) items found.0 found.1)
    ]
  where
    at : (n : ℕ) → place ≡ suc n → (o : Option Fault) → changes_number item.content ≡ false → content_refusal m item.group item.content ≡ o
        → (batch_refusal (after_item m item) (take n items) ≡ None → meets_number (after_item m item) items ≡ true) → meets_number m (item ∷ items) ≡ true
    at n after None plain first later =
        let front : batch_refusal m (item ∷ take n items) ≡ None = subst (λ (k : ℕ). batch_refusal m (take k (item ∷ items)) ≡ None) after fits in
        meets_later m item items plain first ∙ later (sym (later_refusal m item (take n items) first) ∙ front)
    at n after (Some e) plain first later =
        let front : batch_refusal m (item ∷ take n items) ≡ None = subst (λ (k : ℕ). batch_refusal m (take k (item ∷ items)) ≡ None) after fits in
        let refused = refused_first m item (take n items) e first in
        absurd (cc)

-- one of those before it doesn't
pub not_met_after_front : (m : Contents) (items : Batch) (place : ℕ) (e : Fault) → number_place items ≡ Some place → batch_refusal m (take place items) ≡ Some e → meets_number m items ≡ false
not_met_after_front m [] place e is refused = refl
not_met_after_front m (item ∷ items) place e is refused =
    elim (cases_Bool (changes_number item.content)) [
      | inl number ↦
          let first = this_place (changes_number item.content) (number_place items) place number is in
          let none : batch_refusal m [] ≡ Some e = subst (λ (k : ℕ). batch_refusal m (take k (item ∷ items)) ≡ Some e) first refused in
          absurd (cc)
      | inr plain ↦
          let found = later_place (changes_number item.content) (number_place items) place plain is in
          at found.0 found.2 (content_refusal m item.group item.content) plain refl (not_met_after_front (after_item m item) items found.0 e found.1)
    ]
  where
    at : (n : ℕ) → place ≡ suc n → (o : Option Fault) → changes_number item.content ≡ false → content_refusal m item.group item.content ≡ o
        → (batch_refusal (after_item m item) (take n items) ≡ Some e → meets_number (after_item m item) items ≡ false) → meets_number m (item ∷ items) ≡ false
    at n after None plain first later =
        let front : batch_refusal m (item ∷ take n items) ≡ Some e = subst (λ (k : ℕ). batch_refusal m (take k (item ∷ items)) ≡ Some e) after refused in
        meets_later m item items plain first ∙ later (sym (later_refusal m item (take n items) first) ∙ front)
    at n after (Some f) plain first later = meets_refused m item items f plain first
