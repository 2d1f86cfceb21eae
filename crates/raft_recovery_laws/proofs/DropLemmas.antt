-- One group's entries where the first changes are dropped.
use Rattle.std.proofs.Common.{◌≡◌, ◌⊎◌, ℕ, ◌+◌, ◌<◌, ◌≤◌, Bool, true, false, cond, eqb, List, [], ◌∷◌, ◌++◌, length, filter, refl, sym, ◌∙◌, ap, subst, inl, inr, arith, append-nil}
use Rattle.std.specs.Prelude.{Contains}
use Rattle.std.specs.List.{AllByRecursion as Each}
use Rattle.std.proofs.lemmas.Bool.{false≢true, eqb-true, eq-eqb, or_cases, or_left, or_right, cases_lt, cases_Bool, false_from_ne_true}
use Rattle.std.proofs.lemmas.List.Elements.{Contains-append_cases, Contains-push_cases}
use Rattle.raft_records.specs.Item.{Entry}
use Rattle.raft_recovery_laws.specs.DroppingFront.{IsBeside}
use Rattle.raft_recovery_laws.proofs.ListLemmas.{Runs, AreRun, From, Below, has_before, put_on, each_filter, each_weaker, each_passes, runs_from, runs_left, runs_right, before_in_run, put_on-apart}
use Rattle.raft_recovery_laws.proofs.AppendLemmas.{EntryChange, IsRun, Apart, after_changes, all_keep, kept, run_kept, below_first, put_on-touching}
use Rattle.raft_recovery_laws.proofs.FrontLemmas.{replayed, fixed_parts, apart_new, put_on_cases, kept-after_changes, kept_twice}
use Rattle.std.proofs.lemmas.List.Elements.{filter-append}

-- an element of a list
abbrev pub In : {X : Type 0} → X → List X → Type 0
In e [] = ⊥
In e (x ∷ xs) = (x ≡ e) ⊎ In e xs

pub in_contains : {X : Type 0} (xs : List X) (e : X) → Contains xs e → In e xs
in_contains [] e (k, less, is) = absurd (omega arith)
in_contains (x ∷ xs) e has = elim (Contains-append_cases (x ∷ []) xs e has) [
  | inl here ↦ elim (Contains-push_cases [] x e here) [
    | inl none ↦ absurd (omega (arith, none.1))
    | inr same ↦ inl same
  ]
  | inr later ↦ inr (in_contains xs e later)
]

pub in_each : {X : Type 0} (P : X → Type 0) (xs : List X) (e : X) → Each P xs → In e xs → P e
in_each P [] e _ is = absurd is
in_each P (x ∷ xs) e (here, rest) (inl same) = subst P same here
in_each P (x ∷ xs) e (here, rest) (inr later) = in_each P xs e rest later

pub in_kept : {X : Type 0} (p : X → Bool) (xs : List X) (e : X) → In e xs → p e ≡ true → In e (filter p xs)
in_kept p [] e is passes = is
in_kept p (x ∷ xs) e (inl same) passes = subst (λ b. In e (cond b (x ∷ filter p xs) (filter p xs))) (sym (ap p same ∙ passes)) (inl same)
in_kept p (x ∷ xs) e (inr later) passes = go (p x) (in_kept p xs e later passes)
  where
    go : (b : Bool) → In e (filter p xs) → In e (cond b (x ∷ filter p xs) (filter p xs))
    go true is = inr is
    go false is = is

-- a fact about each element
pub each_in : {X : Type 0} (P : X → Type 0) (xs : List X) → ((e : X) → In e xs → P e) → Each P xs
each_in P [] all = tt
each_in P (x ∷ xs) all = (all x (inl refl), each_in P xs (λ e is. all e (inr is)))

-- Two runs from one index on are the same where the second holds the first and ends with it.

in_tail : (n : ℕ) (o : Entry) (w u : List Entry) → o.0 ≡ n → From (n + 1) u → Each (λ e. In e (o ∷ w)) u → Each (λ e. In e w) u
in_tail n o w [] is _ _ = tt
in_tail n o w (e ∷ u) is (above, from) (inl same, held) = absurd (let index : o.0 ≡ e.0 = ap (λ (x : Entry). x.0) same in omega arith)
in_tail n o w (e ∷ u) is (above, from) (inr later, held) = (later, in_tail n o w u is from held)

same_runs : (n : ℕ) (u w : List Entry) → Runs n u → Runs n w → Each (λ e. In e w) u → Below (n + length u) w → w ≡ u
same_runs n [] [] _ _ _ _ = refl
same_runs n [] (o ∷ w) _ (is, rest) _ (below, others) = absurd (omega arith)
same_runs n (e ∷ u) [] _ _ (held, others) _ = absurd held
same_runs n (e ∷ u) (o ∷ w) (at, next) (is, rest) (inl same, others) (below, more) =
    ap (λ xs. o ∷ xs) (same_runs (n + 1) u w next rest (in_tail n o w u is (runs_from (n + 1) u next) others) (each_weaker (λ (x : Entry). x.0 < n + length (e ∷ u)) (λ x. x.0 < n + 1 + length u) (λ x less. omega arith) w more)) ∙ ap (λ x. x ∷ u) same
same_runs n (e ∷ u) (o ∷ w) (at, next) (is, rest) (inr later, others) _ =
    let above : n + 1 ≤ e.0 = in_each (λ (x : Entry). n + 1 ≤ x.0) w e (runs_from (n + 1) w rest) later in
    absurd (omega arith)

runs_end : (n : ℕ) (w : List Entry) → Runs n w → Below (n + length w) w
runs_end n [] _ = tt
runs_end n (e ∷ es) (is, rest) = (omega arith, each_weaker (λ (x : Entry). x.0 < n + 1 + length es) (λ x. x.0 < n + length (e ∷ es)) (λ x less. omega arith) es (runs_end (n + 1) es rest))

-- a run that holds another, but nothing right below that or above it
only_run : (f : Entry) (u w : List Entry) → Runs f.0 (f ∷ u) → AreRun w → Each (λ e. In e w) (f ∷ u) → has_before f.0 w ≡ false → Below (f.0 + length (f ∷ u)) w → w ≡ f ∷ u
only_run f u w first (n, runs) held none below = same_runs f.0 (f ∷ u) w first (subst (λ k. Runs k w) start runs) held below
  where
    low : n ≤ f.0
    low = in_each (λ (x : Entry). n ≤ x.0) w f (runs_from n w runs) held.0

    high : f.0 < n + length w
    high = in_each (λ (x : Entry). x.0 < n + length w) w f (runs_end n w runs) held.0

    start : n ≡ f.0
    start = elim (cases_lt n f.0) [
      | inl less ↦ absurd (false≢true (sym none ∙ before_in_run n f.0 w runs less (omega (arith, high))))
      | inr more ↦ omega (arith, low, more)
    ]

-- What is found without the first changes.

before_in : (s : ℕ) (w : List Entry) → has_before s w ≡ true → (e : Entry) × In e w × (e.0 + 1 ≡ s)
before_in s [] is = absurd (false≢true is)
before_in s (e ∷ es) is = elim (or_cases (eqb (e.0 + 1) s) (has_before s es) is) [
  | inl same ↦ (e, inl refl, eqb-true (e.0 + 1) s same)
  | inr later ↦ (let (x, found, at) = before_in s es later in (x, inr found, at))
]

no_before : (s : ℕ) (w : List Entry) → ((e : Entry) → In e w → e.0 + 1 ≡ s → ⊥) → has_before s w ≡ false
no_before s w none = false_from_ne_true (has_before s w) (λ is. (let (e, found, at) = before_in s w is in none e found at))

pub kept_in : (p : Entry → Bool) (x : List Entry) (e : Entry) → In e (filter p x) → In e x × (p e ≡ true)
kept_in p x e is = (in_each (λ y. In y x) (filter p x) e (each_filter (λ y. In y x) p x (each_in (λ y. In y x) x (λ y at. at))) is, in_each (λ y. p y ≡ true) (filter p x) e (each_passes p x) is)

pub nothing_in : (w : List Entry) → ((e : Entry) → In e w → ⊥) → w ≡ []
nothing_in [] none = refl
nothing_in (e ∷ es) none = absurd (none e (inl refl))

-- none of a list's entries that changes leave alone stands beside another list
abbrev pub NoneBeside : List EntryChange → List Entry → List Entry → Type 0
NoneBeside cs x j = (e : Entry) → In e (kept cs x) → IsBeside j e.0 → ⊥

without_kept : (cs : List EntryChange) (x j a : List Entry) → Apart (kept cs x) a → NoneBeside cs x j → j ≡ a → put_on (kept cs x) a ≡ j
without_kept cs x j [] apart none is = nothing_in (kept cs x) (λ e found. none e found (subst (λ xs. IsBeside xs e.0) (sym is) tt)) ∙ sym is
without_kept cs x j (f ∷ r) apart none is = put_on-apart (kept cs x) f r (no_before f.0 (kept cs x) (λ e found at. none e found (subst (λ xs. IsBeside xs e.0) (sym is) (inl at)))) ∙ sym is

below_end : (cs : List EntryChange) (x j : List Entry) (f : Entry) (u a : List Entry) → Apart (kept cs x) a → Runs f.0 ((f ∷ u) ++ a) → NoneBeside cs x j → j ≡ (f ∷ u) ++ a → Below (f.0 + length (f ∷ u)) (kept cs x)
below_end cs x j f u [] apart runs none is = each_in (λ e. e.0 < f.0 + length (f ∷ u)) (kept cs x) (λ e found. elim (cases_lt e.0 (f.0 + length (f ∷ u))) [
  | inl less ↦ less
  | inr more ↦ absurd (none e found (subst (λ xs. IsBeside xs e.0) (sym (is ∙ append-nil (f ∷ u))) (inr (omega arith))))
])
below_end cs x j f u (g ∷ r) apart runs none is = each_weaker (λ (e : Entry). e.0 < g.0) (λ e. e.0 < f.0 + length (f ∷ u)) (λ e less. (let at : g.0 ≡ f.0 + length (f ∷ u) = (runs_right f.0 (f ∷ u) (g ∷ r) runs).0 in omega arith)) (kept cs x) (below_first (kept cs x) g r apart)

pub replayed_without : (cs : List EntryChange) (x j : List Entry) → Each IsRun cs → AreRun x → AreRun j → replayed cs j ≡ j → ((e : Entry) → In e (kept cs j) → In e (kept cs x)) → NoneBeside cs x j → replayed cs x ≡ j
replayed_without cs x j runs run_x run_j fixed held none = go (kept cs j) refl
  where
    a : List Entry
    a = after_changes [] cs

    go : (u : List Entry) → kept cs j ≡ u → replayed cs x ≡ j
    go [] is = without_kept cs x j a (apart_new cs x runs) none (fixed_parts cs j runs fixed ∙ ap (λ u. u ++ a) is)
    go (f ∷ u) is =
        let parts : j ≡ (f ∷ u) ++ a = fixed_parts cs j runs fixed ∙ ap (λ v. v ++ a) is in
        let (n, all) = subst AreRun parts run_j in
        let first : Runs f.0 ((f ∷ u) ++ a) = subst (λ k. Runs k ((f ∷ u) ++ a)) (sym all.0) all in
        let same : kept cs x ≡ f ∷ u = only_run f u (kept cs x) (runs_left f.0 (f ∷ u) a first) (run_kept cs x run_x) (each_in (λ e. In e (kept cs x)) (f ∷ u) (λ e at. held e (subst (In e) (sym is) at)))
        (no_before f.0 (kept cs x) (λ e found at. none e found (subst (λ xs. IsBeside xs e.0) (sym parts) (inl at)))) (below_end cs x j f u a (apart_new cs x runs) first none parts) in
        ap (λ v. put_on v a) (same ∙ sym is) ∙ fixed

-- .. and nothing less would do.

not_beside : (j : List Entry) (e : Entry) → AreRun j → In e j → IsBeside j e.0 → ⊥
not_beside [] e run found beside = found
not_beside (f ∷ es) e (n, runs) found (inl before) =
    let low : n ≤ e.0 = in_each (λ (x : Entry). n ≤ x.0) (f ∷ es) e (runs_from n (f ∷ es) runs) found in
    let at : f.0 ≡ n = runs.0 in
    omega arith
not_beside (f ∷ es) e (n, runs) found (inr after) =
    let high : e.0 < n + length (f ∷ es) = in_each (λ (x : Entry). x.0 < n + length (f ∷ es)) (f ∷ es) e (runs_end n (f ∷ es) runs) found in
    let at : f.0 ≡ n = runs.0 in
    omega arith

before_at : (s : ℕ) (w : List Entry) (e : Entry) → In e w → e.0 + 1 ≡ s → has_before s w ≡ true
before_at s [] e found at = absurd found
before_at s (x ∷ w) e (inl same) at = or_left (eqb (x.0 + 1) s) (has_before s w) (eq-eqb (x.0 + 1) s (ap (λ (y : Entry). y.0 + 1) same ∙ at))
before_at s (x ∷ w) e (inr later) at = or_right (eqb (x.0 + 1) s) (has_before s w) (before_at s w e later at)

in_left : (w a : List Entry) (e : Entry) → In e w → In e (w ++ a)
in_left [] a e found = absurd found
in_left (x ∷ w) a e (inl same) = inl same
in_left (x ∷ w) a e (inr later) = inr (in_left w a e later)

none_beside : (w a j : List Entry) (e : Entry) → Apart w a → AreRun j → put_on w a ≡ j → In e w → IsBeside j e.0 → ⊥
none_beside w [] j e apart run is found beside = not_beside j e run (subst (In e) is found) beside
none_beside w (f ∷ r) j e apart run is found beside = elim (cases_Bool (has_before f.0 w)) [
  | inl touch ↦ not_beside j e run (subst (In e) (sym (put_on-touching w f r apart touch) ∙ is) (in_left w (f ∷ r) e found)) beside
  | inr gap ↦ alone gap (subst (λ xs. IsBeside xs e.0) (sym is ∙ put_on-apart w f r gap) beside)
]
  where
    alone : has_before f.0 w ≡ false → IsBeside (f ∷ r) e.0 → ⊥
    alone gap (inl before) = false≢true (sym gap ∙ before_at f.0 w e found before)
    alone gap (inr after) = (let low : e.0 < f.0 = in_each (λ (x : Entry). x.0 < f.0) w e (below_first w f r apart) found in omega arith)

pub replayed_needs_no_other : (cs : List EntryChange) (x j : List Entry) → Each IsRun cs → AreRun j → replayed cs x ≡ j → NoneBeside cs x j
replayed_needs_no_other cs x j runs run is e found beside = none_beside (kept cs x) (after_changes [] cs) j e (apart_new cs x runs) run is found beside

pub replayed_needs : (cs : List EntryChange) (x j : List Entry) → Each IsRun cs → replayed cs x ≡ j → (e : Entry) → In e (kept cs j) → In e (kept cs x)
replayed_needs cs x j runs is e found = elim (put_on_cases (kept cs x) a (apart_new cs x runs)) [
  | inl both ↦ subst (In e) (ap (kept cs) (sym is ∙ both) ∙ filter-append (λ y. all_keep cs y.0) (kept cs x) a ∙ ap (λ ys. kept cs (kept cs x) ++ ys) (kept-after_changes cs runs) ∙ append-nil (kept cs (kept cs x)) ∙ kept_twice cs x) found
  | inr (alone, others) ↦ absurd (subst (In e) (ap (kept cs) (sym is ∙ alone) ∙ kept-after_changes cs runs) found)
]
  where
    a : List Entry
    a = after_changes [] cs
