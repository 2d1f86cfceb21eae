-- Which batches of the Rewrite queue count after others were appended.
use Rattle.std.proofs.Common.{◌≡◌, ℕ, Bool, true, false, cond, eqb, ◌&&◌, ◌||◌, List, [], ◌∷◌, ◌++◌, Option, Some, None, filter, refl, sym, ◌∙◌, ap, append-nil, arith}
use Rattle.std.specs.List.{cons_option, list_all, list_any}
use Rattle.std.specs.Str.{bytes_eq}
use Rattle.std.proofs.lemmas.Bool.{false≢true, eqb-true}
use Rattle.std.proofs.lemmas.Bool.Decides.{nat_tests}
use Rattle.std.proofs.lemmas.List.Elements.{filter-append, filter_agree, filter_map-append}
use Rattle.std.proofs.lemmas.List.Sums.{fold-append}
use Rattle.raft_records.specs.Item.{Batch}
use Rattle.raft_records.specs.Contents.{no_contents, after_batch, after_batches}
use Rattle.raft_recovery_laws.specs.Groups.{GroupMark, mark_of, place_by, places_in, first_place, last_place, has_last, has_id, is_of_group, is_complete, mark_counts, batch_counts, whole}
use Rattle.raft_recovery_laws.specs.Recovered.{effect}

pub places-append : (id : ℕ) (xs ys : List Batch) → places_in id (xs ++ ys) ≡ places_in id xs ++ places_in id ys
places-append id xs ys = filter_map-append (λ b. place_by id (mark_of b)) xs ys

-- the marks of other groups are the same in both lists
abbrev SameForOthers : ℕ → List Batch → List Batch → Type 0
SameForOthers id xs ys = (other : ℕ) → eqb other id ≡ false → places_in other xs ≡ places_in other ys

counts_same : (id : ℕ) (xs ys : List Batch) (m : Option GroupMark) → SameForOthers id xs ys → has_id id m ≡ false → mark_counts xs m ≡ mark_counts ys m
counts_same id xs ys None same other = refl
counts_same id xs ys (Some mark) same other = ap is_complete (same mark.id other)

-- a batch adds a place to those of its group alone
no_place_at : (same : Bool) (place : List ℕ) (rest : List (List ℕ)) → cons_option (cond same (Some place) None) rest ≡ [] → (same ≡ false) × (rest ≡ [])
no_place_at true place rest is = absurd cc
no_place_at false place rest is = (refl, is)

pub no_place : (id : ℕ) (m : Option GroupMark) (rest : List (List ℕ)) → cons_option (place_by id m) rest ≡ [] → (has_id id m ≡ false) × (rest ≡ [])
no_place id None rest is = (refl, is)
no_place id (Some mark) rest is = no_place_at (eqb mark.id id) mark.place rest is

pub filter_next : {X : Type 0} (p q : X → Bool) (x : X) (xs : List X) → p x ≡ q x → filter p xs ≡ filter q xs → filter p (x ∷ xs) ≡ filter q (x ∷ xs)
filter_next p q x xs at_first rest = ap (λ b. cond b (x ∷ filter p xs) (filter p xs)) at_first ∙ ap (λ ys. cond (q x) (x ∷ ys) ys) rest

-- the batches of other groups, and of none, count as before
others_count_as_before : (id : ℕ) (old new : List Batch) → SameForOthers id old new → (bs : List Batch) → places_in id bs ≡ [] → filter (batch_counts old) bs ≡ filter (batch_counts new) bs
others_count_as_before id old new same [] none = refl
others_count_as_before id old new same (b ∷ bs) none =
    let apart = no_place id (mark_of b) (places_in id bs) none in
    filter_next (batch_counts old) (batch_counts new) b bs (counts_same id old new (mark_of b) same apart.0) (others_count_as_before id old new same bs apart.1)

other_id : (a b c : ℕ) → eqb a b ≡ true → eqb c b ≡ false → eqb a c ≡ false
other_id a b c same apart = grind (arith, nat_tests)

place_of_other : (id other : ℕ) (m : Option GroupMark) (rest : List (List ℕ)) → has_id id m ≡ true → eqb other id ≡ false → cons_option (place_by other m) rest ≡ rest
place_of_other id other None rest is apart = absurd (false≢true is)
place_of_other id other (Some mark) rest is apart = ap (λ b. cons_option (cond b (Some mark.place) None) rest) (other_id mark.id id other is apart)

-- a batch of the group, and all after it
pub of_group : (id : ℕ) (b : Batch) (bs : List Batch) → list_all (is_of_group id) (b ∷ bs) ≡ true → (is_of_group id b ≡ true) × (list_all (is_of_group id) bs ≡ true)
of_group id b bs all = both (is_of_group id b) _ all
  where
    both : (x y : Bool) → (x && y) ≡ true → (x ≡ true) × (y ≡ true)
    both true y is = (refl, is)
    both false y is = absurd (false≢true is)

pub none_of_others : (id other : ℕ) (bs : List Batch) → list_all (is_of_group id) bs ≡ true → eqb other id ≡ false → places_in other bs ≡ []
none_of_others id other [] all apart = refl
none_of_others id other (b ∷ bs) all apart =
    let each = of_group id b bs all in
    place_of_other id other (mark_of b) (places_in other bs) each.0 apart ∙ none_of_others id other bs each.1 apart

-- all batches of one group count, or none
group_counts : (id : ℕ) (batches : List Batch) (m : Option GroupMark) → has_id id m ≡ true → mark_counts batches m ≡ is_complete (places_in id batches)
group_counts id batches None is = absurd (false≢true is)
group_counts id batches (Some mark) is = ap (λ i. is_complete (places_in i batches)) (eqb-true mark.id id is)

pub open_group_is_left_out : (id : ℕ) (batches bs : List Batch) → is_complete (places_in id batches) ≡ false → list_all (is_of_group id) bs ≡ true → filter (batch_counts batches) bs ≡ []
open_group_is_left_out id batches [] open_still all = refl
open_group_is_left_out id batches (b ∷ bs) open_still all =
    let each = of_group id b bs all in
    ap (λ x. cond x (b ∷ filter (batch_counts batches) bs) (filter (batch_counts batches) bs)) (group_counts id batches (mark_of b) each.0 ∙ open_still) ∙ open_group_is_left_out id batches bs open_still each.1

pub complete_group_counts : (id : ℕ) (batches bs : List Batch) → is_complete (places_in id batches) ≡ true → list_all (is_of_group id) bs ≡ true → filter (batch_counts batches) bs ≡ bs
complete_group_counts id batches [] complete all = refl
complete_group_counts id batches (b ∷ bs) complete all =
    let each = of_group id b bs all in
    ap (λ x. cond x (b ∷ filter (batch_counts batches) bs) (filter (batch_counts batches) bs)) (group_counts id batches (mark_of b) each.0 ∙ complete) ∙ ap (λ ys. b ∷ ys) (complete_group_counts id batches bs complete each.1)

neither : (x y : Bool) → (x || y) ≡ false → (x ≡ false) × (y ≡ false)
neither true y is = absurd (false≢true (sym is))
neither false y is = (refl, is)

never_complete : (first last rest : Bool) → last ≡ false → rest ≡ false → ((first && last) || rest) ≡ false
never_complete true true rest no_last open_still = no_last
never_complete true false rest no_last open_still = open_still
never_complete false last rest no_last open_still = open_still

pub no_last_is_incomplete : (ps : List (List ℕ)) → has_last ps ≡ false → is_complete ps ≡ false
no_last_is_incomplete [] none = refl
no_last_is_incomplete (p ∷ ps) none =
    let later = (neither (bytes_eq p last_place) (has_last ps) none).1 in
    never_complete (bytes_eq p first_place) (has_last ps) (is_complete ps) later (no_last_is_incomplete ps later)

pub no_first_is_incomplete : (ps : List (List ℕ)) → list_any (λ p. bytes_eq p first_place) ps ≡ false → is_complete ps ≡ false
no_first_is_incomplete [] none = refl
no_first_is_incomplete (p ∷ ps) none =
    let each = neither (bytes_eq p first_place) (list_any (λ q. bytes_eq q first_place) ps) none in
    ap (λ b. (b && has_last ps) || is_complete ps) each.0 ∙ no_first_is_incomplete ps each.1

group_between : (id other : ℕ) (old bs more : List Batch) → list_all (is_of_group id) bs ≡ true → eqb other id ≡ false → places_in other (old ++ bs ++ more) ≡ places_in other (old ++ more)
group_between id other old bs more all apart =
    places-append other (old ++ bs) more ∙ ap (λ ps. ps ++ places_in other more) (places-append other old bs ∙ ap (λ ps. places_in other old ++ ps) (none_of_others id other bs all apart) ∙ append-nil (places_in other old)) ∙ sym (places-append other old more)

group_alone : (id : ℕ) (old bs more : List Batch) → places_in id old ≡ [] → places_in id more ≡ [] → places_in id (old ++ bs ++ more) ≡ places_in id bs
group_alone id old bs more none_before none_after =
    places-append id (old ++ bs) more ∙ ap (λ ps. ps ++ places_in id more) (places-append id old bs ∙ ap (λ ps. ps ++ places_in id bs) none_before) ∙ ap (λ ps. places_in id bs ++ ps) none_after ∙ append-nil (places_in id bs)

-- the batches of a group that isn't complete change nothing of which others count
pub whole-open_group : (id : ℕ) (old bs more : List Batch) → places_in id old ≡ [] → places_in id more ≡ [] → list_all (is_of_group id) bs ≡ true → is_complete (places_in id bs) ≡ false → whole (old ++ bs ++ more) ≡ whole (old ++ more)
whole-open_group id old bs more none_before none_after all open_still =
    let now = old ++ bs ++ more in
    let same : SameForOthers id now (old ++ more) = λ other apart. group_between id other old bs more all apart in
    let left_out : filter (batch_counts now) bs ≡ [] = open_group_is_left_out id now bs (ap is_complete (group_alone id old bs more none_before none_after) ∙ open_still) all in
    filter-append (batch_counts now) (old ++ bs) more
    ∙ ap (λ xs. xs ++ filter (batch_counts now) more) (filter-append (batch_counts now) old bs ∙ ap (λ xs. filter (batch_counts now) old ++ xs) left_out ∙ append-nil _)
    ∙ ap (λ xs. xs ++ filter (batch_counts now) more) (others_count_as_before id now (old ++ more) same old none_before)
    ∙ ap (λ xs. filter (batch_counts (old ++ more)) old ++ xs) (others_count_as_before id now (old ++ more) same more none_after)
    ∙ sym (filter-append (batch_counts (old ++ more)) old more)

-- a complete group counts after what counted before it
pub whole-complete_group : (id : ℕ) (old bs : List Batch) → places_in id old ≡ [] → list_all (is_of_group id) bs ≡ true → is_complete (places_in id bs) ≡ true → whole (old ++ bs) ≡ whole old ++ bs
whole-complete_group id old bs none_before all complete =
    let now = old ++ bs in
    let same : SameForOthers id now old = λ other apart. places-append other old bs ∙ ap (λ ps. places_in other old ++ ps) (none_of_others id other bs all apart) ∙ append-nil (places_in other old) in
    let places : places_in id now ≡ places_in id bs = places-append id old bs ∙ ap (λ ps. ps ++ places_in id bs) none_before in
    filter-append (batch_counts now) old bs
    ∙ ap (λ xs. xs ++ filter (batch_counts now) bs) (others_count_as_before id now old same old none_before)
    ∙ ap (λ xs. whole old ++ xs) (complete_group_counts id now bs (ap is_complete places ∙ complete) all)

-- a batch without a mark counts
unmarked_places : (id : ℕ) (b : Batch) (old : List Batch) → mark_of b ≡ None → places_in id (old ++ b ∷ []) ≡ places_in id old
unmarked_places id b old unmarked = places-append id old (b ∷ []) ∙ ap (λ m. places_in id old ++ cons_option (place_by id m) []) unmarked ∙ append-nil (places_in id old)

counts_with_unmarked : (old : List Batch) (b : Batch) (m : Option GroupMark) → mark_of b ≡ None → mark_counts (old ++ b ∷ []) m ≡ mark_counts old m
counts_with_unmarked old b None unmarked = refl
counts_with_unmarked old b (Some mark) unmarked = ap is_complete (unmarked_places mark.id b old unmarked)

pub whole-unmarked : (old : List Batch) (b : Batch) → mark_of b ≡ None → whole (old ++ b ∷ []) ≡ whole old ++ b ∷ []
whole-unmarked old b unmarked =
    filter-append (batch_counts (old ++ b ∷ [])) old (b ∷ [])
    ∙ ap (λ xs. xs ++ filter (batch_counts (old ++ b ∷ [])) (b ∷ [])) (filter_agree (batch_counts (old ++ b ∷ [])) (batch_counts old) (λ x. counts_with_unmarked old b (mark_of x) unmarked) old)
    ∙ ap (λ x. whole old ++ cond x (b ∷ []) []) (ap (mark_counts (old ++ b ∷ [])) unmarked)

-- the contents of the Rewrite queue after these changes of it
pub effect-open_group : (id : ℕ) (old bs more : List Batch) → places_in id old ≡ [] → places_in id more ≡ [] → list_all (is_of_group id) bs ≡ true → is_complete (places_in id bs) ≡ false → effect (old ++ bs ++ more) ≡ effect (old ++ more)
effect-open_group id old bs more none_before none_after all incomplete = ap (after_batches no_contents) (whole-open_group id old bs more none_before none_after all incomplete)

pub effect-complete_group : (id : ℕ) (old bs : List Batch) → places_in id old ≡ [] → list_all (is_of_group id) bs ≡ true → is_complete (places_in id bs) ≡ true → effect (old ++ bs) ≡ after_batches (effect old) bs
effect-complete_group id old bs none_before all complete = ap (after_batches no_contents) (whole-complete_group id old bs none_before all complete) ∙ fold-append after_batch no_contents (whole old) bs

pub effect-unmarked : (old : List Batch) (b : Batch) → mark_of b ≡ None → effect (old ++ b ∷ []) ≡ after_batch (effect old) b
effect-unmarked old b unmarked = ap (after_batches no_contents) (whole-unmarked old b unmarked) ∙ fold-append after_batch no_contents (whole old) (b ∷ [])

-- batches of a group of which none has a place are none
pub no_batches : (id : ℕ) (bs : List Batch) → list_all (is_of_group id) bs ≡ true → places_in id bs ≡ [] → bs ≡ []
no_batches id [] all none = refl
no_batches id (b ∷ bs) all none = absurd (false≢true (sym (no_place id (mark_of b) (places_in id bs) none).0 ∙ (of_group id b bs all).0))
