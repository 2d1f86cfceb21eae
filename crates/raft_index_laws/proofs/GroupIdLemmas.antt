-- Ids of atomic groups, and the batches of one that is written.
use Rattle.std.proofs.Common.{◌≡◌, ℕ, ◌+◌, ◌<◌, ◌≤◌, ◌==◌, ◌&&◌, ◌||◌, ◌⊎◌, inl, inr, ⊎_elim, eqb, Bool, true, false, cond, List, [], ◌∷◌, ◌++◌, append-nil, append_assoc, map, Option, Some, None, refl, sym, ◌∙◌, ap, arith}
use Rattle.std.specs.List.{cons_option, list_all, list_any}
use Rattle.std.specs.Str.{bytes_eq}
use Rattle.std.proofs.lemmas.Bool.{false≢true}
use Rattle.std.proofs.lemmas.Bool.Decides.{nat_tests}
use Rattle.std.proofs.lemmas.List.{map-append}
use Rattle.std.proofs.lemmas.List.Folds.{list_all-append}
use Rattle.raft_records.specs.Item.{Batch}
use Rattle.raft_records.specs.Record.{Mark, mark_byte}
use Rattle.raft_records.specs.Record.Mark.{Begin, Middle, End}
use Rattle.raft_recovery_laws.specs.Groups.{GroupMark, first_place, has_last, is_complete, is_of_group, mark_of, place_by, places_in}
use Rattle.raft_recovery_laws.specs.Ids.{EndsInGroup, HasIdsBelow}
use Rattle.raft_recovery_laws.specs.Recovered.{effect}
use Rattle.raft_recovery_laws.specs.Together.{StandTogether}
use Rattle.raft_recovery_laws.proofs.GroupLemmas.{effect-open_group, no_first_is_incomplete, no_last_is_incomplete, none_of_others, places-append}
use Rattle.raft_recovery_laws.proofs.TogetherLemmas.{both_without, parts_without, together_group, unmarked_place}
use Rattle.raft_tables.specs.GroupIds.{AreIdsBelow, IsBelow}
use Rattle.raft_index_laws.proofs.KeyLemmas.{eq_self}
use Rattle.raft_index_laws.specs.AtomicGroup.{ended_group, marked, next_mark, open_group}

pub begun : (id : ℕ) (batches : List Batch) → HasIdsBelow id batches → EndsInGroup id [] batches
begun id batches below = record { old = batches; is = sym (append-nil batches); apart = below id (omega arith) }

pub ids_unmarked : (bound : ℕ) (batches : List Batch) (b : Batch) → mark_of b ≡ None → HasIdsBelow bound batches → HasIdsBelow bound (batches ++ b ∷ [])
ids_unmarked bound batches b none below = λ id from. both_without id batches (b ∷ []) (below id from) (unmarked_place id b none)

-- ids that are below a bound batch by batch
pub ids_read : (bound : ℕ) (batches : List Batch) → AreIdsBelow bound batches → HasIdsBelow bound batches
ids_read bound [] each id from = refl
ids_read bound (b ∷ bs) each id from = at (mark_of b) each.0 (ids_read bound bs each.1 id from)
  where
    not_same : (a c : ℕ) → a < bound → bound ≤ c → (a == c) ≡ false
    not_same a c low high = grind (arith, nat_tests)

    at : (m : Option GroupMark) → IsBelow bound m → places_in id bs ≡ [] → cons_option (place_by id m) (places_in id bs) ≡ []
    at None low rest = rest
    at (Some mark) low rest = ap (λ t. let none : Option (List ℕ) = None in cons_option (cond t (Some mark.place) none) (places_in id bs)) (not_same mark.id id low from) ∙ rest

-- The batches of one group.

middles_of_group : (id : ℕ) (bodies : List Batch) → list_all (is_of_group id) (map (marked id Middle) bodies) ≡ true
middles_of_group id [] = refl
middles_of_group id (b ∷ bodies) = ap (λ t. t && list_all (is_of_group id) (map (marked id Middle) bodies)) (eq_self id) ∙ middles_of_group id bodies

pub open_of_group : (id : ℕ) (bodies : List Batch) → list_all (is_of_group id) (open_group id bodies) ≡ true
open_of_group id [] = refl
open_of_group id (b ∷ bodies) = ap (λ t. t && list_all (is_of_group id) (map (marked id Middle) bodies)) (eq_self id) ∙ middles_of_group id bodies

pub ended_of_group : (id : ℕ) (bodies : List Batch) (last : Batch) → list_all (is_of_group id) (ended_group id bodies last) ≡ true
ended_of_group id bodies last = list_all-append (is_of_group id) (open_group id bodies) (marked id End last ∷ []) ∙ ap (λ t. t && list_all (is_of_group id) (marked id End last ∷ [])) (open_of_group id bodies) ∙ ap (λ t. t && true) (eq_self id)

pub next_place : (id : ℕ) (m : Mark) (body : Batch) (bs : List Batch) → places_in id (marked id m body ∷ bs) ≡ (mark_byte m ∷ []) ∷ places_in id bs
next_place id m body bs = ap (λ t. let none : Option (List ℕ) = None in cons_option (cond t (Some (mark_byte m ∷ [])) none) (places_in id bs)) (eq_self id)

middles_not_last : (id : ℕ) (bodies : List Batch) → has_last (places_in id (map (marked id Middle) bodies)) ≡ false
middles_not_last id [] = refl
middles_not_last id (b ∷ bodies) = ap has_last (next_place id Middle b (map (marked id Middle) bodies)) ∙ middles_not_last id bodies

pub open_incomplete : (id : ℕ) (bodies : List Batch) → is_complete (places_in id (open_group id bodies)) ≡ false
open_incomplete id [] = refl
open_incomplete id (b ∷ bodies) = no_last_is_incomplete (places_in id (open_group id (b ∷ bodies))) (ap has_last (next_place id Begin b (map (marked id Middle) bodies)) ∙ middles_not_last id bodies)

-- those behind the first one
abbrev pub behind_first : ℕ → List Batch → Batch → List Batch
behind_first id bodies last = map (marked id Middle) bodies ++ marked id End last ∷ []

has_end : (id : ℕ) (bodies : List Batch) (last : Batch) → has_last (places_in id (behind_first id bodies last)) ≡ true
has_end id [] last = ap has_last (next_place id End last [])
has_end id (b ∷ bodies) last = ap has_last (next_place id Middle b (behind_first id bodies last)) ∙ has_end id bodies last

pub ended_complete : (id : ℕ) (bodies : List Batch) (last : Batch) → (bodies ≡ [] → ⊥) → is_complete (places_in id (ended_group id bodies last)) ≡ true
ended_complete id [] last some = absurd (some refl)
ended_complete id (b ∷ bodies) last some = ap is_complete (next_place id Begin b (behind_first id bodies last)) ∙ ap (λ t. t || is_complete (places_in id (behind_first id bodies last))) (has_end id bodies last)

none_first : (id : ℕ) (bodies : List Batch) (last : Batch) → list_any (λ p. bytes_eq p first_place) (places_in id (behind_first id bodies last)) ≡ false
none_first id [] last = ap (list_any (λ p. bytes_eq p first_place)) (next_place id End last [])
none_first id (b ∷ bodies) last = ap (list_any (λ p. bytes_eq p first_place)) (next_place id Middle b (behind_first id bodies last)) ∙ none_first id bodies last

any_right : {X : Type 0} (p : X → Bool) (xs ys : List X) → list_any p (xs ++ ys) ≡ false → list_any p ys ≡ false
any_right p [] ys none = none
any_right p (x ∷ xs) ys none = any_right p xs ys (at (p x) (list_any p (xs ++ ys)) none)
  where
    at : (a b : Bool) → (a || b) ≡ false → b ≡ false
    at true b is = absurd (false≢true (sym is))
    at false b is = is

-- what is cut off a group isn't complete without its first batch
cut_behind : (id : ℕ) (bodies : List Batch) (last : Batch) (front tail : List Batch) → behind_first id bodies last ≡ front ++ tail → is_complete (places_in id tail) ≡ false
cut_behind id bodies last front tail is =
    no_first_is_incomplete (places_in id tail) (any_right (λ p. bytes_eq p first_place) (places_in id front) (places_in id tail) (ap (list_any (λ p. bytes_eq p first_place)) (sym (places-append id front tail) ∙ ap (places_in id) (sym is)) ∙ none_first id bodies last))

cut_group : (id : ℕ) (bodies : List Batch) (last : Batch) (front tail : List Batch) → ended_group id bodies last ≡ front ++ tail → (front ≡ []) ⊎ (is_complete (places_in id tail) ≡ false)
cut_group id bodies last [] tail is = inl refl
cut_group id [] last (f ∷ front) tail is = inr (ap (λ bs. is_complete (places_in id bs)) (none_behind front tail (let same = is in cc)))
  where
    none_behind : (xs ys : List Batch) → [] ≡ xs ++ ys → ys ≡ []
    none_behind [] ys same = sym same
    none_behind (x ∷ xs) ys same = absurd (let clash = same in cc)
cut_group id (b ∷ bodies) last (f ∷ front) tail is = inr (cut_behind id bodies last front tail (let same = is in cc))

pub group_together : (id : ℕ) (batches bodies : List Batch) (last : Batch) → HasIdsBelow id batches → StandTogether batches → StandTogether (batches ++ ended_group id bodies last)
group_together id batches bodies last below together = together_group id batches (ended_group id bodies last) together (below id (omega arith)) (ended_of_group id bodies last) (cut_group id bodies last)

not_same : (a b : ℕ) → b + 1 ≤ a → eqb a b ≡ false
not_same a b far = grind (arith, nat_tests)

pub group_ids : (id : ℕ) (batches bodies : List Batch) (last : Batch) → HasIdsBelow id batches → HasIdsBelow (id + 1) (batches ++ ended_group id bodies last)
group_ids id batches bodies last below = λ other from. both_without other batches (ended_group id bodies last) (below other (omega (arith, from))) (none_of_others id other (ended_group id bodies last) (ended_of_group id bodies last) (not_same other id from))

-- Fewer batches.

pub ids_fewer : (bound : ℕ) (front batches : List Batch) → HasIdsBelow bound (front ++ batches) → HasIdsBelow bound batches
ids_fewer bound front batches below = λ id from. (parts_without id front batches (below id from)).1

pub together_fewer : (front batches : List Batch) → StandTogether (front ++ batches) → StandTogether batches
together_fewer front batches together first back is =
    let cut = together (front ++ first) back (ap (λ bs. front ++ bs) is ∙ sym (append_assoc front first back)) in
    record {
      id = cut.id;
      tail = cut.tail;
      rest = cut.rest;
      is = cut.is;
      of_group = cut.of_group;
      incomplete = cut.incomplete;
      apart = λ id. ⊎_elim (λ none. inl (parts_without id front (first ++ cut.tail) (ap (places_in id) (sym (append_assoc front first cut.tail)) ∙ none)).1) (λ none. inr none) (cut.apart id);
    }

-- A group that isn't ended.

pub open_more : (id : ℕ) (bodies : List Batch) (body : Batch) → open_group id (bodies ++ body ∷ []) ≡ open_group id bodies ++ marked id (next_mark bodies) body ∷ []
open_more id [] body = refl
open_more id (b ∷ bodies) body = ap (λ bs. marked id Begin b ∷ bs) (map-append (marked id Middle) bodies (body ∷ []))

pub effect_open : (id : ℕ) (bodies batches : List Batch) → (e : EndsInGroup id (open_group id bodies) batches) → effect batches ≡ effect e.old
effect_open id bodies batches e =
    ap effect (e.is ∙ sym (append-nil (e.old ++ open_group id bodies)))
    ∙ effect-open_group id e.old (open_group id bodies) [] e.apart refl (open_of_group id bodies) (open_incomplete id bodies)
    ∙ ap effect (append-nil e.old)

pub more_is : (id : ℕ) (bodies batches : List Batch) (body : Batch) (e : EndsInGroup id (open_group id bodies) batches) → batches ++ marked id (next_mark bodies) body ∷ [] ≡ e.old ++ open_group id (bodies ++ body ∷ [])
more_is id bodies batches body e = ap (λ bs. bs ++ marked id (next_mark bodies) body ∷ []) e.is ∙ append_assoc e.old (open_group id bodies) (marked id (next_mark bodies) body ∷ []) ∙ ap (λ bs. e.old ++ bs) (sym (open_more id bodies body))

pub ends_more : (id : ℕ) (bodies batches : List Batch) (body : Batch) → EndsInGroup id (open_group id bodies) batches → EndsInGroup id (open_group id (bodies ++ body ∷ [])) (batches ++ marked id (next_mark bodies) body ∷ [])
ends_more id bodies batches body e = record { old = e.old; is = more_is id bodies batches body e; apart = e.apart }
