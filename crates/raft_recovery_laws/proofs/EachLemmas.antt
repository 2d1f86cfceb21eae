-- Facts about each element of a list.
use Rattle.std.proofs.Common.{◌≡◌, ℕ, ◌+◌, ◌<◌, ◌≤◌, ◌&&◌, ◌⊎◌, inl, inr, Bool, true, false, cond, eqb, List, [], ◌∷◌, ◌++◌, length, filter, refl, sym, ◌∙◌, ap, subst, ⊎_elim, arith}
use Rattle.std.specs.List.{All, Contains, AllByRecursion as Each, list_all}
use Rattle.std.proofs.lemmas.Bool.{and_parts, cases_Bool, eqb-true, false≢true, le-leb}
use Rattle.std.proofs.lemmas.List.Elements.{All-contains, All-contains_itself, All-from_recursion, All-weaker}
use Rattle.raft_records.specs.Item.{Entry}
use Rattle.raft_records.specs.Contents.{is_next_to}
use Rattle.raft_records.specs.Validity.{are_consecutive_from}
use Rattle.raft_recovery_laws.specs.Consecutive.{are_consecutive}
use Rattle.raft_recovery_laws.proofs.AscendingLemmas.{Contains-cons_cases, Contains-head, Contains-tail}

pub each_map : {X : Type 0} (P Q : X → Type 0) (xs : List X) → ((x : X) → P x → Q x) → Each P xs → Each Q xs
each_map P Q [] h each = tt
each_map P Q (x ∷ xs) h each = (h x each.0, each_map P Q xs h each.1)

pub each_append : {X : Type 0} (P : X → Type 0) (xs ys : List X) → Each P xs → Each P ys → Each P (xs ++ ys)
each_append P [] ys first second = second
each_append P (x ∷ xs) ys first second = (first.0, each_append P xs ys first.1 second)

pub each_left : {X : Type 0} (P : X → Type 0) (xs ys : List X) → Each P (xs ++ ys) → Each P xs
each_left P [] ys each = tt
each_left P (x ∷ xs) ys each = (each.0, each_left P xs ys each.1)

pub each_right : {X : Type 0} (P : X → Type 0) (xs ys : List X) → Each P (xs ++ ys) → Each P ys
each_right P [] ys each = each
each_right P (x ∷ xs) ys each = each_right P xs ys each.1

pub each_filter : {X : Type 0} (P : X → Type 0) (p : X → Bool) (xs : List X) → Each P xs → Each P (filter p xs)
each_filter P p [] each = tt
each_filter P p (x ∷ xs) each = at (p x) (each_filter P p xs each.1)
  where
    at : (b : Bool) → Each P (filter p xs) → Each P (cond b (x ∷ filter p xs) (filter p xs))
    at true rest = (each.0, rest)
    at false rest = rest

pub each_contained : {X : Type 0} (P : X → Type 0) (xs : List X) (x : X) → Each P xs → Contains xs x → P x
each_contained P xs x each is = All-contains P xs x (All-from_recursion P xs each) is

pub each_of : {X : Type 0} (P : X → Type 0) (xs : List X) → ((x : X) → Contains xs x → P x) → Each P xs
each_of P [] h = tt
each_of P (x ∷ xs) h = (h x (Contains-head x xs), each_of P xs (λ y is. h y (Contains-tail x xs y is)))

pub all_of : {X : Type 0} (P : X → Type 0) (xs : List X) → ((x : X) → Contains xs x → P x) → All P xs
all_of P xs h = All-weaker (Contains xs) P h xs (All-contains_itself xs)

-- consecutive entries

pub consecutive_parts : {X : Type 0} (n : ℕ) (e : ℕ × X) (es : List (ℕ × X)) → are_consecutive_from n (e ∷ es) ≡ true → (e.0 ≡ n) × (are_consecutive_from (n + 1) es ≡ true)
consecutive_parts n e es is =
    let parts = and_parts (eqb e.0 n) (are_consecutive_from (n + 1) es) is in
    (eqb-true e.0 n parts.0, parts.1)

pub within : {X : Type 0} (n : ℕ) (xs : List (ℕ × X)) (x : ℕ × X) → are_consecutive_from n xs ≡ true → Contains xs x → (n ≤ x.0) × (x.0 < n + length xs)
within n [] x is has = absurd (omega (arith, has.1))
within {X} n (y ∷ ys) x is has =
    let parts = consecutive_parts n y ys is in
    ⊎_elim
    (λ same. let at : y.0 ≡ x.0 = ap (λ (z : ℕ × X). z.0) same in (omega (arith, parts.0), omega (arith, parts.0)))
    (λ later. let rest = within (n + 1) ys x parts.1 later in (omega (arith, rest.0), omega (arith, rest.1)))
    (Contains-cons_cases y ys x has)

pub run_left : {X : Type 0} (n : ℕ) (xs ys : List (ℕ × X)) → are_consecutive_from n (xs ++ ys) ≡ true → are_consecutive_from n xs ≡ true
run_left n [] ys run = refl
run_left n (x ∷ xs) ys run =
    let parts = and_parts (eqb x.0 n) (are_consecutive_from (n + 1) (xs ++ ys)) run in
    let rest = run_left (n + 1) xs ys parts.1 in
    ap (λ b. b && are_consecutive_from (n + 1) xs) parts.0 ∙ rest

pub run_right : {X : Type 0} (n : ℕ) (xs ys : List (ℕ × X)) → are_consecutive_from n (xs ++ ys) ≡ true → are_consecutive_from (n + length xs) ys ≡ true
run_right n [] ys run = let at : n + 0 ≡ n = omega arith in subst (λ m. are_consecutive_from m ys ≡ true) (sym at) run
run_right n (x ∷ xs) ys run =
    let at : n + length (x ∷ xs) ≡ (n + 1) + length xs = omega arith in
    subst (λ m. are_consecutive_from m ys ≡ true) (sym at) (run_right (n + 1) xs ys (consecutive_parts n x (xs ++ ys) run).1)

-- before an entry with others before it stands one with the index below
pub one_before : {X : Type 0} (n : ℕ) (p : ℕ × X) (ps : List (ℕ × X)) (e : ℕ × X) (r : List (ℕ × X)) → are_consecutive_from n ((p ∷ ps) ++ e ∷ r) ≡ true → (q : ℕ × X) × Contains (p ∷ ps) q × (q.0 + 1 ≡ e.0)
one_before n p [] e r is =
    let first = consecutive_parts n p (e ∷ r) is in
    let second = consecutive_parts (n + 1) e r first.1 in
    (p, Contains-head p [], omega (arith, first.0, second.0))
one_before n p (q ∷ ps) e r is =
    let first = consecutive_parts n p ((q ∷ ps) ++ e ∷ r) is in
    let found = one_before (n + 1) q ps e r first.1 in
    (found.0, Contains-tail p (q ∷ ps) found.0 found.1, found.2)

-- an index right behind an entry of a consecutive list is next to the list
pub next_to : (xs : List Entry) (p : Entry) (index : ℕ) → are_consecutive xs ≡ true → Contains xs p → p.0 + 1 ≡ index → is_next_to xs index ≡ true
next_to [] p index run has next = absurd (omega (arith, has.1))
next_to (f ∷ fs) p index run has next =
    let at = within f.0 (f ∷ fs) p run has in
    both (le-leb f.0 index (omega (arith, at.0))) (le-leb index (f.0 + length (f ∷ fs)) (omega (arith, at.1)))
  where
    both : {a b : Bool} → a ≡ true → b ≡ true → (a && b) ≡ true
    both p q = cc
