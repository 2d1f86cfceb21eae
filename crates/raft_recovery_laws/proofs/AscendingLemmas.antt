-- Lists whose indexes rise: those with the same entries are equal.
use Rattle.std.proofs.Common.{◌≡◌, ℕ, ◌+◌, ◌<◌, ◌≤◌, Bool, true, false, eqb, nat_le, nat_lt, ◌&&◌, ◌⊎◌, inl, inr, List, [], ◌∷◌, ◌++◌, filter, refl, sym, ◌∙◌, ap, subst, ⊎_elim, arith}
use Rattle.std.specs.List.{All, Contains}
use Rattle.std.proofs.lemmas.Bool.{cases_Bool, false≢true, le-leb, eqb-true}
use Rattle.std.proofs.lemmas.Bool.Decides.{nat_tests}
use Rattle.std.proofs.lemmas.List.Elements.{All-cons, All-contains, All-nil, All-weaker, Contains-append_cases, Contains-append_right, Contains-push_cases, filter_passes}
use Rattle.raft_records.specs.Item.{Entry}
use Rattle.raft_records.specs.Validity.{are_consecutive_from}
use Rattle.raft_recovery_laws.proofs.KeptLemmas.{filter_yes, filter_no, kept_all, kept_none}

-- the indexes rise, from a start on
abbrev pub IsAscending : ℕ → List Entry → Type 0
IsAscending start [] = Unit {0}
IsAscending start (e ∷ es) = (start ≤ e.0) × IsAscending (e.0 + 1) es

pub IsAscending-lower : (s t : ℕ) (xs : List Entry) → s ≤ t → IsAscending t xs → IsAscending s xs
IsAscending-lower s t [] below up = tt
IsAscending-lower s t (e ∷ es) below up = (omega arith, up.1)

pub IsAscending-filter : (q : Entry → Bool) (s : ℕ) (xs : List Entry) → IsAscending s xs → IsAscending s (filter q xs)
IsAscending-filter q s [] up = tt
IsAscending-filter q s (e ∷ es) up =
    let rest = IsAscending-filter q (e.0 + 1) es up.1 in
    ⊎_elim
    (λ yes. subst (IsAscending s) (sym (filter_yes q e es yes)) (up.0, rest))
    (λ no. subst (IsAscending s) (sym (filter_no q e es no)) (IsAscending-lower s (e.0 + 1) (filter q es) (omega (arith, up.0)) rest))
    (cases_Bool (q e))

pub IsAscending-consecutive : (s : ℕ) (xs : List Entry) → are_consecutive_from s xs ≡ true → IsAscending s xs
IsAscending-consecutive s [] is = tt
IsAscending-consecutive s (e ∷ es) is =
    let parts = both (eqb e.0 s) (are_consecutive_from (s + 1) es) is in
    let at : e.0 ≡ s = eqb-true e.0 s parts.0 in
    (omega arith, subst (λ i. IsAscending (i + 1) es) (sym at) (IsAscending-consecutive (s + 1) es parts.1))
  where
    both : (x y : Bool) → (x && y) ≡ true → (x ≡ true) × (y ≡ true)
    both true y is = (refl, is)
    both false y is = absurd (false≢true is)

pub above_start : (s : ℕ) (xs : List Entry) → IsAscending s xs → All (λ e. s ≤ e.0) xs
above_start s [] up = All-nil (λ (e : Entry). s ≤ e.0)
above_start s (e ∷ es) up =
    All-cons (λ (x : Entry). s ≤ x.0) e es up.0 (above_start s es (IsAscending-lower s (e.0 + 1) es (omega (arith, up.0)) up.1))

pub Contains-cons_cases : {X : Type 0} (y : X) (ys : List X) (x : X) → Contains (y ∷ ys) x → (y ≡ x) ⊎ Contains ys x
Contains-cons_cases y ys x is =
    ⊎_elim
    (λ front. ⊎_elim (λ none. absurd (omega (arith, none.1))) (λ same. inl same) (Contains-push_cases [] y x front))
    (λ behind. inr behind)
    (Contains-append_cases (y ∷ []) ys x is)

pub Contains-head : {X : Type 0} (x : X) (xs : List X) → Contains (x ∷ xs) x
Contains-head x xs = (0, omega arith, refl)

pub Contains-tail : {X : Type 0} (y : X) (ys : List X) (x : X) → Contains ys x → Contains (y ∷ ys) x
Contains-tail y ys x is = Contains-append_right (y ∷ []) ys x is

pub Contains-filter : {X : Type 0} (q : X → Bool) (xs : List X) (x : X) → Contains xs x → q x ≡ true → Contains (filter q xs) x
Contains-filter q [] x is passes = absurd (omega (arith, is.1))
Contains-filter q (y ∷ ys) x is passes =
    ⊎_elim
    (λ same. subst (λ zs. Contains zs x) (sym (filter_yes q y ys (ap q same ∙ passes))) (subst (λ z. Contains (y ∷ filter q ys) z) same (Contains-head y (filter q ys))))
    (λ behind.
    let rest = Contains-filter q ys x behind passes in
    ⊎_elim
    (λ at. subst (λ zs. Contains zs x) (sym (filter_yes q y ys at)) (Contains-tail y (filter q ys) x rest))
    (λ at. subst (λ zs. Contains zs x) (sym (filter_no q y ys at)) rest)
    (cases_Bool (q y)))
    (Contains-cons_cases y ys x is)

pub Contains-unfilter : {X : Type 0} (q : X → Bool) (xs : List X) (x : X) → Contains (filter q xs) x → Contains xs x × (q x ≡ true)
Contains-unfilter {X = X} q xs x is = (inside xs is, All-contains (λ z. q z ≡ true) (filter q xs) x (filter_passes q xs) is)
  where
    inside : (ys : List X) → Contains (filter q ys) x → Contains ys x
    inside [] h = h
    inside (y ∷ ys) h =
        ⊎_elim
        (λ at. ⊎_elim (λ same. subst (λ z. Contains (y ∷ ys) z) same (Contains-head y ys)) (λ behind. Contains-tail y ys x (inside ys behind)) (Contains-cons_cases y (filter q ys) x (subst (λ zs. Contains zs x) (filter_yes q y ys at) h)))
        (λ at. Contains-tail y ys x (inside ys (subst (λ zs. Contains zs x) (filter_no q y ys at) h)))
        (cases_Bool (q y))

-- a list that holds nothing is empty
pub empty_unless : {X : Type 0} (xs : List X) → ((x : X) → Contains xs x → ⊥) → xs ≡ []
empty_unless [] none = refl
empty_unless (x ∷ xs) none = absurd (none x (Contains-head x xs))

-- lists whose indexes rise and that hold the same entries are equal
pub ascending_same : (s : ℕ) (xs ys : List Entry) → IsAscending s xs → IsAscending s ys → ((e : Entry) → Contains xs e → Contains ys e) → ((e : Entry) → Contains ys e → Contains xs e) → xs ≡ ys
ascending_same s [] [] up_x up_y to from = refl
ascending_same s [] (y ∷ ys) up_x up_y to from = absurd (omega (arith, (from y (Contains-head y ys)).1))
ascending_same s (x ∷ xs) [] up_x up_y to from = absurd (omega (arith, (to x (Contains-head x xs)).1))
ascending_same s (x ∷ xs) (y ∷ ys) up_x up_y to from =
    let later_x : (e : Entry) → Contains xs e → x.0 < e.0 = λ e is. omega (arith, All-contains (λ (z : Entry). x.0 + 1 ≤ z.0) xs e (above_start (x.0 + 1) xs up_x.1) is) in
    let later_y : (e : Entry) → Contains ys e → y.0 < e.0 = λ e is. omega (arith, All-contains (λ (z : Entry). y.0 + 1 ≤ z.0) ys e (above_start (y.0 + 1) ys up_y.1) is) in
    let first : y ≡ x = first_same later_x later_y (Contains-cons_cases y ys x (to x (Contains-head x xs))) (Contains-cons_cases x xs y (from y (Contains-head y ys))) in
    let rest : xs ≡ ys = ascending_same (x.0 + 1) xs ys up_x.1 (subst (λ (z : Entry). IsAscending (z.0 + 1) ys) first up_y.1)
    (λ e is. other (λ same. let at : y.0 ≡ e.0 = ap (λ (z : Entry). z.0) same in let also : y.0 ≡ x.0 = ap (λ (z : Entry). z.0) first in omega (arith, later_x e is)) (Contains-cons_cases y ys e (to e (Contains-tail x xs e is))))
    (λ e is. other (λ same. let at : x.0 ≡ e.0 = ap (λ (z : Entry). z.0) same in let also : y.0 ≡ x.0 = ap (λ (z : Entry). z.0) first in omega (arith, later_y e is)) (Contains-cons_cases x xs e (from e (Contains-tail y ys e is)))) in
    ap (λ z. z ∷ xs) (sym first) ∙ ap (λ zs. y ∷ zs) rest
  where
    first_same : ((e : Entry) → Contains xs e → x.0 < e.0) → ((e : Entry) → Contains ys e → y.0 < e.0) → (y ≡ x) ⊎ Contains ys x → (x ≡ y) ⊎ Contains xs y → y ≡ x
    first_same later_x later_y (inl same) b = same
    first_same later_x later_y (inr a) (inl same) = sym same
    first_same later_x later_y (inr a) (inr b) = absurd (omega (arith, later_y x a, later_x y b))

    other : {A B : Type 0} → (A → ⊥) → A ⊎ B → B
    other never (inl a) = absurd (never a)
    other never (inr b) = b

at_or_above : (s : ℕ) (e : Entry) → nat_lt e.0 s ≡ false → s ≤ e.0
at_or_above s e is = grind (arith, nat_tests)

below_is_not_above : (s : ℕ) (e : Entry) → nat_lt e.0 s ≡ true → nat_le s e.0 ≡ false
below_is_not_above s e is = grind (arith, nat_tests)

above_is_not_below : (s : ℕ) (e : Entry) → s ≤ e.0 → nat_lt e.0 s ≡ false
above_is_not_below s e is = grind (arith, nat_tests)

pub none_below : (s : ℕ) (xs : List Entry) → All (λ e. s ≤ e.0) xs → filter (λ e. nat_lt e.0 s) xs ≡ []
none_below s xs above = kept_none (λ (e : Entry). nat_lt e.0 s) xs (All-weaker (λ (e : Entry). s ≤ e.0) (λ (e : Entry). nat_lt e.0 s ≡ false) (λ e is. above_is_not_below s e is) xs above)

pub all_above : (s : ℕ) (xs : List Entry) → All (λ e. s ≤ e.0) xs → filter (λ e. nat_le s e.0) xs ≡ xs
all_above s xs above = kept_all (λ (e : Entry). nat_le s e.0) xs (All-weaker (λ (e : Entry). s ≤ e.0) (λ (e : Entry). nat_le s e.0 ≡ true) (λ e is. le-leb s e.0 is) xs above)

-- a list is what stands below an index and what stands at it or above
pub below_and_above : (t s : ℕ) (xs : List Entry) → IsAscending t xs → filter (λ e. nat_lt e.0 s) xs ++ filter (λ e. nat_le s e.0) xs ≡ xs
below_and_above t s [] up = refl
below_and_above t s (e ∷ es) up =
    ⊎_elim
    (λ yes. ap (λ ys. ys ++ filter (λ x. nat_le s x.0) (e ∷ es)) (filter_yes (λ x. nat_lt x.0 s) e es yes) ∙ ap (λ ys. e ∷ (filter (λ x. nat_lt x.0 s) es ++ ys)) (filter_no (λ x. nat_le s x.0) e es (below_is_not_above s e yes)) ∙ ap (λ ys. e ∷ ys) (below_and_above (e.0 + 1) s es up.1))
    (λ no.
    let here : s ≤ e.0 = at_or_above s e no in
    let all : All (λ x. s ≤ x.0) (e ∷ es) = above_start s (e ∷ es) (here, up.1) in
    ap (λ ys. ys ++ filter (λ x. nat_le s x.0) (e ∷ es)) (none_below s (e ∷ es) all) ∙ all_above s (e ∷ es) all)
    (cases_Bool (nat_lt e.0 s))
