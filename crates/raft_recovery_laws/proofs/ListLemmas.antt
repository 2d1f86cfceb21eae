-- Lists of entries with consecutive indexes, and entries put on a list.
use Rattle.std.proofs.Common.{◌≡◌, ℕ, ◌+◌, ◌<◌, ◌≤◌, Bool, true, false, cond, eqb, ltb, leb, ◌&&◌, ◌||◌, List, [], ◌∷◌, ◌++◌, length, filter, refl, sym, ◌∙◌, ap, subst, inl, inr, arith}
use Rattle.std.specs.List.{list_any, AllByRecursion as Each}
use Rattle.std.proofs.lemmas.Bool.{false≢true, lt-ltb, le-ltb, le-leb, lt-leb, eq-eqb, ne_eqb, cases_lt, cases_Bool, cases_eq, cases_order, and_left, and_right, and_from}
use Rattle.raft_records.specs.Item.{Entry}
use Rattle.raft_records.specs.Contents.{is_next_to, entries_below, with_entries}

-- entries with consecutive indexes from a number on
abbrev pub Runs : ℕ → List Entry → Type 0
Runs n [] = Unit {0}
Runs n (e ∷ es) = (e.0 ≡ n) × Runs (n + 1) es

-- entries with consecutive indexes
abbrev pub AreRun : List Entry → Type 0
AreRun es = (n : ℕ) × Runs n es

-- the entries are above an index, from it on, or below it
abbrev pub Above : ℕ → List Entry → Type 0
Above i es = Each (λ e. i < e.0) es

abbrev pub From : ℕ → List Entry → Type 0
From i es = Each (λ e. i ≤ e.0) es

abbrev pub Below : ℕ → List Entry → Type 0
Below i es = Each (λ e. e.0 < i) es

-- an entry with the index before this one is in the list
abbrev pub has_before : ℕ → List Entry → Bool
has_before s es = list_any (λ e. eqb (e.0 + 1) s) es

-- new entries on a list: the entries below the first of them stay where the index before it is there
abbrev pub put_on : List Entry → List Entry → List Entry
put_on w [] = w
put_on w (e ∷ es) = cond (has_before e.0 w) (entries_below e.0 w ++ e ∷ es) (e ∷ es)

pub each_append : {X : Type 0} (P : X → Type 0) (xs ys : List X) → Each P xs → Each P ys → Each P (xs ++ ys)
each_append P [] ys _ all = all
each_append P (x ∷ xs) ys (here, rest) all = (here, each_append P xs ys rest all)

pub each_left : {X : Type 0} (P : X → Type 0) (xs ys : List X) → Each P (xs ++ ys) → Each P xs
each_left P [] ys _ = tt
each_left P (x ∷ xs) ys (here, rest) = (here, each_left P xs ys rest)

pub each_weaker : {X : Type 0} (P Q : X → Type 0) → ((x : X) → P x → Q x) → (xs : List X) → Each P xs → Each Q xs
each_weaker P Q imp [] _ = tt
each_weaker P Q imp (x ∷ xs) (here, rest) = (imp x here, each_weaker P Q imp xs rest)

each_kept : {X : Type 0} (P : X → Type 0) (b : Bool) (x : X) (xs : List X) → P x → Each P xs → Each P (cond b (x ∷ xs) xs)
each_kept P true x xs here rest = (here, rest)
each_kept P false x xs here rest = rest

pub each_filter : {X : Type 0} (P : X → Type 0) (p : X → Bool) (xs : List X) → Each P xs → Each P (filter p xs)
each_filter P p [] _ = tt
each_filter P p (x ∷ xs) (here, rest) = each_kept P (p x) x (filter p xs) here (each_filter P p xs rest)

passed_kept : {X : Type 0} (p : X → Bool) (b : Bool) (x : X) (xs : List X) → p x ≡ b → Each (λ y. p y ≡ true) xs → Each (λ y. p y ≡ true) (cond b (x ∷ xs) xs)
passed_kept p true x xs here rest = (here, rest)
passed_kept p false x xs here rest = rest

pub each_passes : {X : Type 0} (p : X → Bool) (xs : List X) → Each (λ x. p x ≡ true) (filter p xs)
each_passes p [] = tt
each_passes p (x ∷ xs) = passed_kept p (p x) x (filter p xs) refl (each_passes p xs)

pub filter_all : {X : Type 0} (p : X → Bool) (xs : List X) → Each (λ x. p x ≡ true) xs → filter p xs ≡ xs
filter_all p [] _ = refl
filter_all p (x ∷ xs) (here, rest) = ap (λ b. cond b (x ∷ filter p xs) (filter p xs)) here ∙ ap (λ ys. x ∷ ys) (filter_all p xs rest)

pub filter_none : {X : Type 0} (p : X → Bool) (xs : List X) → Each (λ x. p x ≡ false) xs → filter p xs ≡ []
filter_none p [] _ = refl
filter_none p (x ∷ xs) (here, rest) = ap (λ b. cond b (x ∷ filter p xs) (filter p xs)) here ∙ filter_none p xs rest

kept_both : {X : Type 0} (a b : Bool) (q : X → Bool) (x : X) (xs ys : List X) → q x ≡ b → filter q xs ≡ ys → filter q (cond a (x ∷ xs) xs) ≡ cond (a && b) (x ∷ ys) ys
kept_both true true q x xs ys is rest = ap (λ c. cond c (x ∷ filter q xs) (filter q xs)) is ∙ ap (λ zs. x ∷ zs) rest
kept_both true false q x xs ys is rest = ap (λ c. cond c (x ∷ filter q xs) (filter q xs)) is ∙ rest
kept_both false b q x xs ys is rest = rest

-- a filter of a filter
pub filter_filter : {X : Type 0} (p q : X → Bool) (xs : List X) → filter q (filter p xs) ≡ filter (λ x. p x && q x) xs
filter_filter p q [] = refl
filter_filter p q (x ∷ xs) = kept_both (p x) (q x) q x (filter p xs) (filter (λ y. p y && q y) xs) refl (filter_filter p q xs)

pub below_all : (s : ℕ) (w : List Entry) → Below s w → entries_below s w ≡ w
below_all s w below = filter_all (λ e. ltb e.0 s) w (each_weaker (λ (e : Entry). e.0 < s) (λ e. ltb e.0 s ≡ true) (λ e. lt-ltb e.0 s) w below)

pub below_none : (s : ℕ) (w : List Entry) → From s w → entries_below s w ≡ []
below_none s w above = filter_none (λ e. ltb e.0 s) w (each_weaker (λ (e : Entry). s ≤ e.0) (λ e. ltb e.0 s ≡ false) (λ e. le-ltb e.0 s) w above)

-- the index before is in the list

pub no_before_below : (s i : ℕ) (w : List Entry) → Below i w → i < s → has_before s w ≡ false
no_before_below s i [] _ is = refl
no_before_below s i (e ∷ es) (here, rest) is =
    ap (λ b. b || has_before s es) (ne_eqb (e.0 + 1) s (λ same. omega arith)) ∙ no_before_below s i es rest is

pub no_before_from : (s i : ℕ) (w : List Entry) → From i w → s ≤ i → has_before s w ≡ false
no_before_from s i [] _ is = refl
no_before_from s i (e ∷ es) (here, rest) is =
    ap (λ b. b || has_before s es) (ne_eqb (e.0 + 1) s (λ same. omega arith)) ∙ no_before_from s i es rest is

-- runs

pub runs_from : (n : ℕ) (w : List Entry) → Runs n w → From n w
runs_from n [] _ = tt
runs_from n (e ∷ es) (here, rest) = (omega arith, each_weaker (λ (x : Entry). n + 1 ≤ x.0) (λ x. n ≤ x.0) (λ x is. omega arith) es (runs_from (n + 1) es rest))

pub runs_tail_above : (n : ℕ) (e : Entry) (es : List Entry) → Runs n (e ∷ es) → Above e.0 es
runs_tail_above n e es (here, rest) = each_weaker (λ (x : Entry). n + 1 ≤ x.0) (λ x. e.0 < x.0) (λ x is. omega arith) es (runs_from (n + 1) es rest)

pub runs_left : (n : ℕ) (u v : List Entry) → Runs n (u ++ v) → Runs n u
runs_left n [] v _ = tt
runs_left n (e ∷ es) v (here, rest) = (here, runs_left (n + 1) es v rest)

pub runs_right : (n : ℕ) (u v : List Entry) → Runs n (u ++ v) → Runs (n + length u) v
runs_right n [] v runs = subst (λ k. Runs k v) (omega arith) runs
runs_right n (e ∷ es) v (here, rest) = subst (λ k. Runs k v) (omega arith) (runs_right (n + 1) es v rest)

pub runs_append : (n : ℕ) (u v : List Entry) → Runs n u → Runs (n + length u) v → Runs n (u ++ v)
runs_append n [] v _ runs = subst (λ k. Runs k v) (omega arith) runs
runs_append n (e ∷ es) v (here, rest) runs = (here, runs_append (n + 1) es v rest (subst (λ k. Runs k v) (omega arith) runs))

-- where an index before is in a run
pub before_in_run : (n s : ℕ) (w : List Entry) → Runs n w → n < s → s ≤ n + length w → has_before s w ≡ true
before_in_run n s [] _ low high = absurd (omega arith)
before_in_run n s (e ∷ es) (here, rest) low high = elim (cases_eq (e.0 + 1) s) [
  | inl same ↦ ap (λ b. b || has_before s es) (eq-eqb (e.0 + 1) s same)
  | inr other ↦ ap (λ b. b || has_before s es) (ne_eqb (e.0 + 1) s other)
      ∙ before_in_run (n + 1) s es rest (omega (arith, other)) (omega arith)
]

pub no_before_run : (n s : ℕ) (w : List Entry) → Runs n w → n + length w < s → has_before s w ≡ false
no_before_run n s [] _ high = refl
no_before_run n s (e ∷ es) (here, rest) high =
    ap (λ b. b || has_before s es) (ne_eqb (e.0 + 1) s (λ same. omega arith)) ∙ no_before_run (n + 1) s es rest (omega arith)

-- of two lists that are a run together, the second starts next to the first
pub before_in_append : (n : ℕ) (x : Entry) (u : List Entry) (f : Entry) (r : List Entry) → Runs n ((x ∷ u) ++ f ∷ r) → has_before f.0 (x ∷ u) ≡ true
before_in_append n x u f r runs =
    let next : f.0 ≡ n + length (x ∷ u) = (runs_right n (x ∷ u) (f ∷ r) runs).0 in
    before_in_run n f.0 (x ∷ u) (runs_left n (x ∷ u) (f ∷ r) runs) (omega (arith, next)) (omega (arith, next))

-- the part of a run below an index, or from one on, is a run
pub runs_below : (n s : ℕ) (w : List Entry) → Runs n w → Runs n (entries_below s w)
runs_below n s [] _ = tt
runs_below n s (e ∷ es) (here, rest) = elim (cases_lt e.0 s) [
  | inl low ↦ subst (Runs n) (sym (ap (λ b. cond b (e ∷ entries_below s es) (entries_below s es)) (lt-ltb e.0 s low))) (here, runs_below (n + 1) s es rest)
  | inr high ↦ subst (Runs n) (sym (below_none s (e ∷ es) (each_weaker (λ (x : Entry). n ≤ x.0) (λ x. s ≤ x.0) (λ x is. omega arith) (e ∷ es) (runs_from n (e ∷ es) (here, rest))))) tt
]

pub run_above : (n c : ℕ) (w : List Entry) → Runs n w → AreRun (filter (λ e. leb c e.0) w)
run_above n c [] _ = (n, tt)
run_above n c (e ∷ es) (here, rest) = elim (cases_lt e.0 c) [
  | inl low ↦ subst AreRun (sym (ap (λ b. cond b (e ∷ filter (λ x. leb c x.0) es) (filter (λ x. leb c x.0) es)) (lt-leb c e.0 low))) (run_above (n + 1) c es rest)
  | inr high ↦ subst AreRun (sym (filter_all (λ x. leb c x.0) (e ∷ es) (each_weaker (λ (x : Entry). n ≤ x.0) (λ x. leb c x.0 ≡ true) (λ x is. le-leb c x.0 (omega arith)) (e ∷ es) (runs_from n (e ∷ es) (here, rest))))) (n, (here, rest))
]

-- the length of the part below an index in the run or next to it
pub length-below : (n s : ℕ) (w : List Entry) → Runs n w → n ≤ s → s ≤ n + length w → n + length (entries_below s w) ≡ s
length-below n s [] _ low high = omega arith
length-below n s (e ∷ es) (here, rest) low high = elim (cases_lt e.0 s) [
  | inl less ↦ ap (λ b. n + length (cond b (e ∷ entries_below s es) (entries_below s es))) (lt-ltb e.0 s less) ∙ (let rec : n + 1 + length (entries_below s es) ≡ s = length-below (n + 1) s es rest (omega arith) (omega arith) in omega (arith, rec))
  | inr more ↦ ap (λ xs. n + length xs) (below_none s (e ∷ es) (each_weaker (λ (x : Entry). n ≤ x.0) (λ x. s ≤ x.0) (λ x is. omega arith) (e ∷ es) (runs_from n (e ∷ es) (here, rest)))) ∙ omega arith
]

-- on a run entries are put so
either_same : {X : Type 0} (b : Bool) (x : X) → cond b x x ≡ x
either_same true x = refl
either_same false x = refl

next_by : (a b c : Bool) (new old : List Entry) → (a && b) ≡ c → cond (a && b) new old ≡ cond c new old
next_by a b c new old same = ap (λ t. cond t new old) same

pub with_entries-run : (n : ℕ) (w es : List Entry) → Runs n w → with_entries w es ≡ put_on w es
with_entries-run n w [] runs = refl
with_entries-run n [] (e ∷ es) runs = refl
with_entries-run n (o ∷ w) (e ∷ es) runs = elim (cases_order o.0 e.0) [
  | inl same ↦
      ap (λ xs. cond (is_next_to (o ∷ w) e.0) (xs ++ e ∷ es) (e ∷ es)) (below_none e.0 (o ∷ w) (subst (λ s. From s (o ∷ w)) (sym runs.0 ∙ same) (runs_from n (o ∷ w) runs)))
      ∙ either_same (is_next_to (o ∷ w) e.0) (e ∷ es)
      ∙ sym (ap (λ b. cond b (entries_below e.0 (o ∷ w) ++ e ∷ es) (e ∷ es)) (no_before_from e.0 n (o ∷ w) (runs_from n (o ∷ w) runs) (omega (arith, runs.0))))
  | inr (inl low) ↦ elim (cases_lt (o.0 + length (o ∷ w)) e.0) [
    | inl apart ↦ next_by (leb o.0 e.0) (leb e.0 (o.0 + length (o ∷ w))) (has_before e.0 (o ∷ w)) (entries_below e.0 (o ∷ w) ++ e ∷ es) (e ∷ es)
        (and_right (leb o.0 e.0) (leb e.0 (o.0 + length (o ∷ w))) (lt-leb e.0 (o.0 + length (o ∷ w)) apart) ∙ sym (no_before_run n e.0 (o ∷ w) runs (omega (arith, runs.0))))
    | inr next ↦ next_by (leb o.0 e.0) (leb e.0 (o.0 + length (o ∷ w))) (has_before e.0 (o ∷ w)) (entries_below e.0 (o ∷ w) ++ e ∷ es) (e ∷ es)
        (and_from (leb o.0 e.0) (leb e.0 (o.0 + length (o ∷ w))) (le-leb o.0 e.0 (omega arith)) (le-leb e.0 (o.0 + length (o ∷ w)) next) ∙ sym (before_in_run n e.0 (o ∷ w) runs (omega (arith, runs.0)) (omega (arith, runs.0))))
  ]
  | inr (inr high) ↦ next_by (leb o.0 e.0) (leb e.0 (o.0 + length (o ∷ w))) (has_before e.0 (o ∷ w)) (entries_below e.0 (o ∷ w) ++ e ∷ es) (e ∷ es)
      (and_left (leb o.0 e.0) (leb e.0 (o.0 + length (o ∷ w))) (lt-leb o.0 e.0 high) ∙ sym (no_before_from e.0 n (o ∷ w) (runs_from n (o ∷ w) runs) (omega (arith, runs.0))))
]

pub put_on-before : (w : List Entry) (e : Entry) (es : List Entry) → has_before e.0 w ≡ true → put_on w (e ∷ es) ≡ entries_below e.0 w ++ e ∷ es
put_on-before w e es is = ap (λ b. cond b (entries_below e.0 w ++ e ∷ es) (e ∷ es)) is

pub put_on-apart : (w : List Entry) (e : Entry) (es : List Entry) → has_before e.0 w ≡ false → put_on w (e ∷ es) ≡ e ∷ es
put_on-apart w e es is = ap (λ b. cond b (entries_below e.0 w ++ e ∷ es) (e ∷ es)) is

-- where an index before is in a run, the index is in it or next to it
pub run_before : (n s : ℕ) (w : List Entry) → Runs n w → has_before s w ≡ true → (n < s) × (s ≤ n + length w)
run_before n s w runs is = elim (cases_lt n s) [
  | inl low ↦ elim (cases_lt (n + length w) s) [
    | inl apart ↦ absurd (false≢true (sym (no_before_run n s w runs apart) ∙ is))
    | inr next ↦ (low, next)
  ]
  | inr high ↦ absurd (false≢true (sym (no_before_from s n w (runs_from n w runs) high) ∙ is))
]

-- entries put on a run are a run
pub run_put_on : (w es : List Entry) → AreRun w → AreRun es → AreRun (put_on w es)
run_put_on w [] run _ = run
run_put_on w (e ∷ es) (n, runs) (m, new) = elim (cases_Bool (has_before e.0 w)) [
  | inl before ↦ subst AreRun (sym (put_on-before w e es before)) (n, runs_append n (entries_below e.0 w) (e ∷ es) (runs_below n e.0 w runs) (next (run_before n e.0 w runs before)))
  | inr apart ↦ subst AreRun (sym (put_on-apart w e es apart)) (m, new)
]
  where
    next : (n < e.0) × (e.0 ≤ n + length w) → Runs (n + length (entries_below e.0 w)) (e ∷ es)
    next within =
        let long : n + length (entries_below e.0 w) ≡ e.0 = length-below n e.0 w runs (omega (arith, within.0)) within.1 in
        subst (λ k. Runs k (e ∷ es)) (omega (arith, new.0, long)) new
