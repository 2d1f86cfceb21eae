-- Atomic groups whose batches stand together: where they may be cut, and which batches may follow.
use Rattle.std.proofs.Common.{◌≡◌, ◌⊎◌, ◌∙◌, ◌++◌, ◌∷◌, ℕ, Bool, true, false, None, List, [], ap, append_assoc, append-nil, eqb, inl, inr, refl, subst, sym}
use Rattle.std.proofs.Math.Logic.{⊎_elim}
use Rattle.std.specs.List.{cons_option, list_all}
use Rattle.raft_records.specs.Item.{Batch}
use Rattle.raft_recovery_laws.specs.Consecutive.{HaveConsecutiveEntries}
use Rattle.raft_recovery_laws.specs.Dropping.{HoldsLeft, ShareNoGroup}
use Rattle.raft_recovery_laws.specs.Groups.{GroupMark, is_complete, is_of_group, mark_of, place_by, places_in}
use Rattle.raft_recovery_laws.specs.Recovered.{effect, recovered}
use Rattle.raft_recovery_laws.specs.Together.{IsCut, StandTogether}
use Rattle.raft_recovery_laws.proofs.DropRewriteLemmas.{dropped_before_rest}
use Rattle.raft_recovery_laws.proofs.FixedLemmas.{consecutive_parts}
use Rattle.std.proofs.lemmas.Bool.{cases_Bool, eqb-true}
use Rattle.raft_recovery_laws.proofs.GroupLemmas.{none_of_others, of_group, places-append}

no_first_places : (xs ys : List (List ℕ)) → xs ++ ys ≡ [] → (xs ≡ []) × (ys ≡ [])
no_first_places [] ys is = (refl, is)
no_first_places (x ∷ xs) ys is = absurd cc

-- no place in both parts
pub parts_without : (id : ℕ) (xs ys : List Batch) → places_in id (xs ++ ys) ≡ [] → (places_in id xs ≡ []) × (places_in id ys ≡ [])
parts_without id xs ys none = no_first_places (places_in id xs) (places_in id ys) (sym (places-append id xs ys) ∙ none)

pub both_without : (id : ℕ) (xs ys : List Batch) → places_in id xs ≡ [] → places_in id ys ≡ [] → places_in id (xs ++ ys) ≡ []
both_without id xs ys no_x no_y = places-append id xs ys ∙ ap (λ ps. ps ++ places_in id ys) no_x ∙ no_y

-- Any first part of the old batches may be gone.
module _ (old new appended : List Batch) (together : StandTogether old) (apart : ShareNoGroup old new) (run_old : HaveConsecutiveEntries old) (run_new : HaveConsecutiveEntries new) (consecutive : HaveConsecutiveEntries appended) (held : HoldsLeft (effect new) appended (recovered (old ++ new) appended)) where
  pub old_may_go : (first second : List Batch) → old ≡ first ++ second → recovered (second ++ new) appended ≡ recovered (old ++ new) appended
  old_may_go first second split =
      let cut = together first second split in
      let is : old ≡ first ++ cut.tail ++ cut.rest = split ∙ ap (λ bs. first ++ bs) cut.is ∙ sym (append_assoc first cut.tail cut.rest) in
      let parts = consecutive_parts (first ++ cut.tail) cut.rest (subst HaveConsecutiveEntries is run_old) in
      ap (λ bs. recovered (bs ++ new) appended) cut.is
      ∙ dropped_before_rest cut.id first cut.tail cut.rest new appended cut.of_group cut.incomplete (λ id. share cut is id) (λ id. share_rest cut is id) parts.0 parts.1 run_new consecutive
      (subst (λ bs. HoldsLeft (effect new) appended (recovered (bs ++ new) appended)) is held)
      ∙ sym (ap (λ bs. recovered (bs ++ new) appended) is)
    where
      share : (cut : IsCut first second) → old ≡ first ++ cut.tail ++ cut.rest → (id : ℕ) → (places_in id (first ++ cut.tail) ≡ []) ⊎ (places_in id (cut.rest ++ new) ≡ [])
      share cut is id = ⊎_elim inl (λ none. ⊎_elim (λ all. inl (parts_without id (first ++ cut.tail) cut.rest (ap (places_in id) (sym is) ∙ all)).0) (λ other. inr (both_without id cut.rest new none other)) (apart id)) (cut.apart id)

      share_rest : (cut : IsCut first second) → old ≡ first ++ cut.tail ++ cut.rest → (id : ℕ) → (places_in id cut.rest ≡ []) ⊎ (places_in id new ≡ [])
      share_rest cut is id = ⊎_elim (λ all. inl (parts_without id (first ++ cut.tail) cut.rest (ap (places_in id) (sym is) ∙ all)).1) inr (apart id)

-- A batch without a mark follows.

pub unmarked_place : (id : ℕ) (b : Batch) → mark_of b ≡ None → places_in id (b ∷ []) ≡ []
unmarked_place id b none = ap (λ (m : _). cons_option (place_by id m) []) none

-- a list is cut at its end, or before its last element
last_cut : (bs front back : List Batch) (b : Batch) → bs ++ b ∷ [] ≡ front ++ back → (back ≡ []) ⊎ ((others : List Batch) × (back ≡ others ++ b ∷ []) × (bs ≡ front ++ others))
last_cut bs [] back b is = inr (bs, sym is, refl)
last_cut [] (x ∷ []) [] b is = inl refl
last_cut [] (x ∷ []) (y ∷ ys) b is = absurd (let clash = is in cc)
last_cut [] (x ∷ z ∷ zs) back b is = absurd (let clash = is in cc)
last_cut (c ∷ bs) (x ∷ front) back b is =
    ⊎_elim inl (λ (others, back_is, bs_is). inr (others, back_is, (let same = is in let first : c ≡ x = cc in ap (λ y. y ∷ bs) first ∙ ap (λ l. x ∷ l) bs_is))) (last_cut bs front back b (let same = is in cc))

pub together_unmarked : (bs : List Batch) (b : Batch) → StandTogether bs → mark_of b ≡ None → StandTogether (bs ++ b ∷ [])
together_unmarked bs b together none front back is = ⊎_elim at_end inside (last_cut bs front back b is)
  where
    at_end : back ≡ [] → IsCut front back
    at_end back_is = record { id = 0; tail = []; rest = []; is = back_is; of_group = refl; incomplete = refl; apart = λ id. inr refl }

    inside : (others : List Batch) × (back ≡ others ++ b ∷ []) × (bs ≡ front ++ others) → IsCut front back
    inside (others, back_is, bs_is) =
        let cut = together front others bs_is in
        record {
          id = cut.id;
          tail = cut.tail;
          rest = cut.rest ++ b ∷ [];
          is = back_is ∙ ap (λ l. l ++ b ∷ []) cut.is ∙ append_assoc cut.tail cut.rest (b ∷ []);
          of_group = cut.of_group;
          incomplete = cut.incomplete;
          apart = λ id. ⊎_elim inl (λ rest_none. inr (both_without id cut.rest (b ∷ []) rest_none (unmarked_place id b none))) (cut.apart id);
        }

-- A new group follows.

-- where two lists are cut
cut_of_two : (old new front back : List Batch) → old ++ new ≡ front ++ back → ((others : List Batch) × (back ≡ others ++ new) × (old ≡ front ++ others)) ⊎ ((mid : List Batch) × (front ≡ old ++ mid) × (new ≡ mid ++ back))
cut_of_two old new [] back is = inl (old, sym is, refl)
cut_of_two [] new (x ∷ front) back is = inr (x ∷ front, refl, is)
cut_of_two (b ∷ old) new (x ∷ front) back is =
    let first : b ≡ x = (let same = is in cc) in
    ⊎_elim (λ (others, back_is, old_is). inl (others, back_is, ap (λ y. y ∷ old) first ∙ ap (λ l. x ∷ l) old_is)) (λ (mid, front_is, new_is). inr (mid, ap (λ l. x ∷ l) front_is ∙ ap (λ y. y ∷ (old ++ mid)) (sym first), new_is)) (cut_of_two old new front back (let same = is in cc))

all_later : (id : ℕ) (xs ys : List Batch) → list_all (is_of_group id) (xs ++ ys) ≡ true → list_all (is_of_group id) ys ≡ true
all_later id [] ys all = all
all_later id (x ∷ xs) ys all = all_later id xs ys (of_group id x (xs ++ ys) all).1

-- of which no later part is complete
pub together_group : (id : ℕ) (old group : List Batch) → StandTogether old → places_in id old ≡ [] → list_all (is_of_group id) group ≡ true → ((front tail : List Batch) → group ≡ front ++ tail → (front ≡ []) ⊎ (is_complete (places_in id tail) ≡ false)) → StandTogether (old ++ group)
together_group id old group together none all tails front back is = ⊎_elim before inside (cut_of_two old group front back is)
  where
    apart_from : (xs rest : List Batch) → old ≡ xs ++ rest → ShareNoGroup xs rest → ShareNoGroup xs (rest ++ group)
    apart_from xs rest old_is apart other = elim (cases_Bool (eqb other id)) [
      | inl same ↦ inl (subst (λ k. places_in k xs ≡ []) (sym (eqb-true other id same)) (parts_without id xs rest (ap (places_in id) (sym old_is) ∙ none)).0)
      | inr differ ↦ ⊎_elim inl (λ rest_none. inr (both_without other rest group rest_none (none_of_others id other group all differ))) (apart other)
    ]

    before : (others : List Batch) × (back ≡ others ++ group) × (old ≡ front ++ others) → IsCut front back
    before (others, back_is, old_is) =
        let cut = together front others old_is in
        record {
          id = cut.id;
          tail = cut.tail;
          rest = cut.rest ++ group;
          is = back_is ∙ ap (λ l. l ++ group) cut.is ∙ append_assoc cut.tail cut.rest group;
          of_group = cut.of_group;
          incomplete = cut.incomplete;
          apart = apart_from (front ++ cut.tail) cut.rest (old_is ∙ ap (λ l. front ++ l) cut.is ∙ sym (append_assoc front cut.tail cut.rest)) cut.apart;
        }

    inside : (mid : List Batch) × (front ≡ old ++ mid) × (group ≡ mid ++ back) → IsCut front back
    inside (mid, front_is, group_is) = ⊎_elim
        (λ empty.
        let back_is : back ≡ [] ++ group = sym (group_is ∙ ap (λ l. l ++ back) empty) in
        let old_is : old ≡ front ++ [] = sym (append-nil front ∙ front_is ∙ ap (λ l. old ++ l) empty ∙ append-nil old) in
        before ([], back_is, old_is))
        (λ incomplete. record {
          id = id;
          tail = back;
          rest = [];
          is = sym (append-nil back);
          of_group = all_later id mid back (ap (list_all (is_of_group id)) (sym group_is) ∙ all);
          incomplete = incomplete;
          apart = λ other. inr refl;
        })
        (tails mid back group_is)
