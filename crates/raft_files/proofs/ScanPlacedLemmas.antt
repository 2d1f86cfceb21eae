-- Records that are found one after the other.
use Rattle.std.proofs.Common.{◌≡◌, ◌⊎◌, ℕ, zero, suc, ◌+◌, ◌<◌, ◌≤◌, List, [], ◌∷◌, ◌++◌, Option, Some, None, Contains, refl, sym, ap, subst, ◌∙◌, inl, inr, arith}
use Rattle.std.specs.Option.{option_map_or}
use Rattle.std.proofs.lemmas.List.{append-nil}
use Rattle.std.proofs.lemmas.List.Elements.{Contains-append_cases, Contains-push_cases}
use Rattle.raft_files.specs.Scan.{PlacedRecord, placed_by, end_of_records}

-- the search goes forward, and what is found has bytes and stands before an end
pub record StaysBefore (end : ℕ) (next : ℕ → Option PlacedRecord) : Type 0 where
  pub found : (at : ℕ) (p : PlacedRecord) → next at ≡ Some p → (at ≤ p.at) × (0 < p.len) × (p.at + p.len ≤ end)

pub record IsFirst (next : ℕ → Option PlacedRecord) (at : ℕ) (first : PlacedRecord) (rest : List PlacedRecord) : Type 0 where
  pub limit : ℕ
  pub is : next at ≡ Some first
  pub others : rest ≡ placed_by limit next (first.at + first.len)

pub cases_next : (o : Option PlacedRecord) → (o ≡ None) ⊎ ((p : PlacedRecord) × (o ≡ Some p))
cases_next None = inl refl
cases_next (Some p) = inr (p, refl)

pub first_placed : (next : ℕ → Option PlacedRecord) (n at : ℕ) (first : PlacedRecord) (rest : List PlacedRecord) → placed_by n next at ≡ first ∷ rest → IsFirst next at first rest
first_placed next zero at first rest e = cc
first_placed next (suc n) at first rest e = by_next (next at) refl e
  where
    by_next : (o : Option PlacedRecord) → next at ≡ o → option_map_or (λ p. p ∷ placed_by n next (p.at + p.len)) o [] ≡ first ∷ rest → IsFirst next at first rest
    by_next None is e = cc
    by_next (Some p) is e =
        let same : p ≡ first = cc in
        let others : rest ≡ placed_by n next (p.at + p.len) = cc in
        subst (λ q. IsFirst next at q rest) same (record { limit = n; is = is; others = others })

pub placed_by-none : (next : ℕ → Option PlacedRecord) (n at : ℕ) → next at ≡ None → placed_by n next at ≡ []
placed_by-none next zero at none = refl
placed_by-none next (suc n) at none = rw none refl

module _ {end : ℕ} {next : ℕ → Option PlacedRecord} (h : StaysBefore end next) where
  -- nothing is found from the end on
  pub placed_by_past : (n at : ℕ) → end ≤ at → placed_by n next at ≡ []
  placed_by_past n at past = elim (cases_next (next at)) [
    | inl none ↦ placed_by-none next n at none
    | inr some ↦ let found = h.found at some.0 some.1 in absurd (omega arith)
  ]

  -- a greater limit changes nothing where both suffice
  pub placed_by-enough : (m n at : ℕ) → end ≤ at + m → end ≤ at + n → placed_by m next at ≡ placed_by n next at
  placed_by-enough zero n at less more = sym (placed_by_past n at (omega arith))
  placed_by-enough (suc m) zero at less more = placed_by_past (suc m) at (omega arith)
  placed_by-enough (suc m) (suc n) at less more = elim (cases_next (next at)) [
    | inl none ↦ rw none refl
    | inr some ↦ let found = h.found at some.0 some.1 in rw some.1 (ap (λ rest. some.0 ∷ rest) (placed_by-enough m n (some.0.at + some.0.len) (omega arith) (omega arith)))
  ]

  -- where it suffices, the first record stands before those that the same limit gives after it
  pub placed_by-next : (n at : ℕ) (p : PlacedRecord) → next at ≡ Some p → end ≤ at + n → placed_by n next at ≡ p ∷ placed_by n next (p.at + p.len)
  placed_by-next n at p e enough = placed_by-enough n (suc n) at enough (omega arith) ∙ rw e refl

  -- the first records end after the place where the search begins
  pub placed_by-further : (n at : ℕ) (xs ys : List PlacedRecord) → placed_by n next at ≡ xs ++ ys → at ≤ end_of_records at xs
  placed_by-further n at [] ys e = omega arith
  placed_by-further n at (x ∷ xs) ys e =
      let first = first_placed next n at x (xs ++ ys) e in
      omega (arith, h.found at x first.is, placed_by-further first.limit (x.at + x.len) xs ys (sym first.others))

  -- .. before all do
  pub end_of_part : (n at : ℕ) (xs ys zs : List PlacedRecord) → placed_by n next at ≡ xs ++ (ys ++ zs) → end_of_records at xs ≤ end_of_records at (xs ++ ys)
  end_of_part n at [] ys zs e = placed_by-further n at ys zs e
  end_of_part n at (x ∷ xs) ys zs e = let first = first_placed next n at x (xs ++ (ys ++ zs)) e in end_of_part first.limit (x.at + x.len) xs ys zs (sym first.others)

  pub end_of_front : (n at : ℕ) (xs ys : List PlacedRecord) → placed_by n next at ≡ xs ++ ys → end_of_records at xs ≤ end_of_records at (xs ++ ys)
  end_of_front n at xs ys e = end_of_part n at xs ys [] (e ∙ ap (λ l. xs ++ l) (sym (append-nil ys)))

  -- .. and not after the end
  pub end_of_placed-within : (n at : ℕ) (rs : List PlacedRecord) → placed_by n next at ≡ rs → at ≤ end → end_of_records at rs ≤ end
  end_of_placed-within n at [] e before = before
  end_of_placed-within n at (x ∷ xs) e before =
      let first = first_placed next n at x xs e in
      end_of_placed-within first.limit (x.at + x.len) xs (sym first.others) (h.found at x first.is).2

-- what one search finds up to a place, the other finds too
pub record FoundUpTo (last : ℕ) (next next' : ℕ → Option PlacedRecord) : Type 0 where
  pub also : (at : ℕ) (p : PlacedRecord) → next at ≡ Some p → p.at + p.len ≤ last → next' at ≡ Some p

found_too : {end last : ℕ} {next next' : ℕ → Option PlacedRecord} → StaysBefore end next → FoundUpTo last next next' → (m at : ℕ) (x : PlacedRecord) (xs ys : List PlacedRecord) → (first : IsFirst next at x (xs ++ ys)) → end_of_records (x.at + x.len) xs ≤ last → next' at ≡ Some x
found_too h u m at x xs ys first within = u.also at x first.is (omega (arith, placed_by-further h first.limit (x.at + x.len) xs ys (sym first.others)))

-- so the records that the one finds first come first in the other
pub placed_by-kept : {end last end' : ℕ} {next next' : ℕ → Option PlacedRecord} → StaysBefore end next → FoundUpTo last next next' → StaysBefore end' next' → (xs ys : List PlacedRecord) (m n at : ℕ) →
    placed_by m next at ≡ xs ++ ys → end_of_records at xs ≤ last → end' ≤ at + n → placed_by n next' at ≡ xs ++ placed_by n next' (end_of_records at xs)
placed_by-kept h u h' [] ys m n at e within enough = refl
placed_by-kept {next = next} h u h' (x ∷ xs) ys m zero at e within enough =
    let found = h'.found at x (found_too h u m at x xs ys (first_placed next m at x (xs ++ ys) e) within) in
    absurd (omega arith)
placed_by-kept {next = next} {next' = next'} h u h' (x ∷ xs) ys m (suc n) at e within enough =
    let first = first_placed next m at x (xs ++ ys) e in
    let there = found_too h u m at x xs ys first within in
    let found = h'.found at x there in
    let rest = placed_by-kept h u h' xs ys first.limit n (x.at + x.len) (sym first.others) within (omega arith) in
    let end = placed_by-further h first.limit (x.at + x.len) xs ys (sym first.others) in
    let more = placed_by-enough h' n (suc n) (end_of_records (x.at + x.len) xs) (omega (arith, end)) (omega (arith, end)) in
    rw there (ap (λ rs. x ∷ rs) (rest ∙ ap (λ rs. xs ++ rs) more))

pub contains_cases : {A : Type 0} (x r : A) (xs : List A) → Contains (x ∷ xs) r → (x ≡ r) ⊎ Contains xs r
contains_cases x r xs has = elim (Contains-append_cases (x ∷ []) xs r has) [
  | inr behind ↦ inr behind
  | inl first ↦ elim (Contains-push_cases [] x r first) [
    | inl none ↦ absurd (omega (arith, none.1))
    | inr same ↦ inl same
  ]
]

-- a record that is found between two places
pub record StandsBetween (next : ℕ → Option PlacedRecord) (from to : ℕ) (r : PlacedRecord) : Type 0 where
  pub start : ℕ
  pub is : next start ≡ Some r
  pub behind : from ≤ r.at
  pub before : r.at + r.len ≤ to

-- each record stands after the place where the search begins, and ends before the end of all
pub placed_stands : {end : ℕ} {next : ℕ → Option PlacedRecord} → StaysBefore end next → (n at : ℕ) (rs : List PlacedRecord) → placed_by n next at ≡ rs → (r : PlacedRecord) → Contains rs r → StandsBetween next at (end_of_records at rs) r
placed_stands stays n at [] e r has = absurd (omega (arith, has.1))
placed_stands {next = next} stays n at (x ∷ xs) e r has =
    let first = first_placed next n at x xs e in
    let found = stays.found at x first.is in
    let further = placed_by-further stays first.limit (x.at + x.len) xs [] (sym first.others ∙ sym (append-nil xs)) in
    elim (contains_cases x r xs has) [
      | inl same ↦ subst (StandsBetween next at (end_of_records (x.at + x.len) xs)) same (record { start = at; is = first.is; behind = found.0; before = further })
      | inr others ↦
          let stands = placed_stands stays first.limit (x.at + x.len) xs (sym first.others) r others in
          record { start = stands.start; is = stands.is; behind = omega (arith, found, stands.behind); before = stands.before }
    ]
