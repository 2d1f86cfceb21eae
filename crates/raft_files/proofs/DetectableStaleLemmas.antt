-- Stale places of a file that was renamed.
use Rattle.std.proofs.Common.{◌≡◌, ◌⊎◌, ℕ, suc, ◌+◌, ◌-◌, ◌≤◌, Bool, true, false, List, [], ◌∷◌, length, take, Option, Some, None, Contains, refl, ap, subst, sym, ◌∙◌, inl, inr, arith}
use Rattle.std.specs.Prelude.{◌&&◌, ◌||◌}
use Rattle.std.proofs.lemmas.Bool.{cases_Bool, cases_lt}
use Rattle.raft_env.specs.Outcomes.{Change, is_within, is_written, IsStaleAfter}
use Rattle.raft_records.specs.Item.{Batch}
use Rattle.raft_records.specs.Record.{record_of}
use Rattle.raft_files.specs.Scan.{PlacedRecord}
use Rattle.raft_files.specs.Detectable.{IsGivenBy, WasGivenSince, IsFreshAfter}
use Rattle.raft_files.specs.Records.{IsUntriedAfter}
use Rattle.raft_env.proofs.OutcomesLemmas.{not_within}
use Rattle.raft_env.proofs.ConsistentLemmas.{nowhere}
use Rattle.raft_files.proofs.ScanExtentLemmas.{record_header_is, record_of_header, same_some}
use Rattle.raft_files.proofs.ScanPlacedLemmas.{contains_cases}

-- the change is no write that gave a byte from this place on, or it failed; and none that begins there
pub record GivesNoneFrom (at : ℕ) (c : Change) : Type 0 where
  pub none : (i : ℕ) → at ≤ i → c.is_done && is_within c.from (length c.given) i ≡ false
  pub begins : at ≤ c.from → c.given ≡ []

and_false : (a b : Bool) → b ≡ false → a && b ≡ false
and_false true b is = is
and_false false b is = refl

pub ungiven : (at : ℕ) (c : Change) → c.given ≡ [] → GivesNoneFrom at c
ungiven at c none = record {
  none = λ i behind. and_false c.is_done _ (nowhere c.from (length c.given) i (ap length none));
  begins = λ behind. none;
}

pub refused_at : (c : Change) (i : ℕ) → c.is_done ≡ false → c.is_done && is_within c.from (length c.given) i ≡ false
refused_at c i refused = ap (λ b. b && is_within c.from (length c.given) i) refused

pub refused_gives_none : (at : ℕ) (c : Change) → c.is_done ≡ false → c.from + 1 ≤ at → GivesNoneFrom at c
refused_gives_none at c refused before = record { none = λ i behind. refused_at c i refused; begins = λ behind. absurd (omega arith) }

none_given : (given : List ℕ) → length given ≡ 0 → given ≡ []
none_given [] none = refl
none_given (x ∷ given) none = absurd (omega (arith, none))

pub gives_none_before : (at : ℕ) (c : Change) → c.from + length c.given ≤ at → GivesNoneFrom at c
gives_none_before at c before = record {
  none = λ i behind. and_false c.is_done _ (not_within c.from (length c.given) i (inr (omega arith)));
  begins = λ behind. none_given c.given (omega arith);
}

-- a place that it gave no byte stays stale
pub stale_more : (renamed : Option ℕ) (c : Change) (changes : List Change) (i : ℕ) → c.is_done && is_within c.from (length c.given) i ≡ false → IsStaleAfter renamed changes i → IsStaleAfter renamed (c ∷ changes) i
stale_more renamed c changes i none (count, is, stale) = (count, is, by_count)
  where
    Unwritten : ℕ → Type 0
    Unwritten n = is_written (take n (c ∷ changes)) i ≡ false

    by_count : Unwritten (length (c ∷ changes) - count)
    by_count = elim (cases_lt (length changes) count) [
      | inl before ↦
          let none_since : length (c ∷ changes) - count ≡ 0 = omega arith in
          subst Unwritten (sym none_since) refl
      | inr behind ↦
          let one_more : length (c ∷ changes) - count ≡ suc (length changes - count) = omega arith in
          subst Unwritten (sym one_more) (ap (λ b. b || is_written (take (length changes - count) changes) i) none ∙ stale)
    ]

-- the changes since the renaming are those then, and the newest
since_more : (count : ℕ) (c d : Change) (changes : List Change) → Contains (take (length (c ∷ changes) - count) (c ∷ changes)) d → (c ≡ d) ⊎ Contains (take (length changes - count) changes) d
since_more count c d changes has = elim (cases_lt (length changes) count) [
  | inl before ↦
      let none_since : length (c ∷ changes) - count ≡ 0 = omega arith in
      let none : Contains [] d = subst (λ n. Contains (take n (c ∷ changes)) d) none_since has in
      absurd (omega (arith, none.1))
  | inr behind ↦
      let one_more : length (c ∷ changes) - count ≡ suc (length changes - count) = omega arith in
      elim (contains_cases c d (take (length changes - count) changes) (subst (λ n. Contains (take n (c ∷ changes)) d) one_more has)) [
        | inl same ↦ inl same
        | inr earlier ↦ inr earlier
      ]
]

untried_more : (renamed : Option ℕ) (c : Change) (changes : List Change) (i : ℕ) → c.is_done && is_within c.from (length c.given) i ≡ false → (c.from ≡ i → c.given ≡ []) → IsUntriedAfter renamed changes i → IsUntriedAfter renamed (c ∷ changes) i
untried_more renamed c changes i none begins untried = (
  stale_more renamed c changes i none untried.0,
  λ count is d has stands. elim (since_more count c d changes has) [
    | inl same ↦ subst (λ (x : Change). x.given ≡ []) same (begins (ap (λ (x : Change). x.from) same ∙ stands))
    | inr earlier ↦ untried.1 count is d earlier stands
  ],
)

pub stale_from_more : (renamed : Option ℕ) (c : Change) (changes : List Change) (from at : ℕ) → GivesNoneFrom at c → from ≤ at → ((i : ℕ) → from ≤ i → IsUntriedAfter renamed changes i) → (i : ℕ) → at ≤ i → IsUntriedAfter renamed (c ∷ changes) i
stale_from_more renamed c changes from at gives further untried i behind = untried_more renamed c changes i (gives.none i behind) (λ stands. gives.begins (omega (arith, behind, stands))) (untried i (omega arith))

-- Records at stale places.

record_of_none : (signature : Option ℕ) (batch : Batch) (len : ℕ) → record_of signature [] ≡ Some (batch, len) → ⊥
record_of_none signature batch len e =
    let found = record_of_header signature [] batch len e in
    let has = record_header_is [] found.0 found.1 in
    absurd (omega (arith, has.long))

-- a change that gives no byte was to bring no record
pub not_given : (by : Option ℕ) (r : PlacedRecord) (c : Change) → c.given ≡ [] → IsGivenBy by r c → ⊥
not_given by r c none given = record_of_none by r.batch r.len (sym (ap (λ b. record_of by b) none) ∙ given.1)

-- no record is fresh where no write has begun
pub untried_not_fresh : (by renamed : Option ℕ) (changes : List Change) (r : PlacedRecord) → IsUntriedAfter renamed changes r.at → IsFreshAfter by renamed changes r → ⊥
untried_not_fresh by renamed changes r untried fresh =
    let since = fresh untried.0 in
    not_given by r since.2 (untried.1 since.0 since.1 since.2 since.3 (sym since.4.0)) since.4

-- a record that was given is the newest change's, or was given before
pub given_before : (by renamed : Option ℕ) (c : Change) (changes : List Change) (r : PlacedRecord) → WasGivenSince by renamed (c ∷ changes) r → IsGivenBy by r c ⊎ WasGivenSince by renamed changes r
given_before by renamed c changes r since = elim (since_more since.0 c since.2 changes since.3) [
  | inl same ↦ inl (subst (IsGivenBy by r) (sym same) since.4)
  | inr earlier ↦ inr (since.0, since.1, since.2, earlier, since.4)
]

-- .. so one that is fresh then was so before
pub fresh_before : (by renamed : Option ℕ) (c : Change) (changes : List Change) (at : ℕ) (r : PlacedRecord) → GivesNoneFrom at c → at ≤ r.at → IsFreshAfter by renamed (c ∷ changes) r → IsFreshAfter by renamed changes r
fresh_before by renamed c changes at r gives behind fresh stale = elim (given_before by renamed c changes r (fresh (stale_more renamed c changes r.at (gives.none r.at behind) stale))) [
  | inl own ↦ absurd (not_given by r c (gives.begins (omega (arith, behind, own.0))) own)
  | inr earlier ↦ earlier
]

-- a place is stale or not
pub stale_or_not : (renamed : Option ℕ) (changes : List Change) (i : ℕ) → IsStaleAfter renamed changes i ⊎ (IsStaleAfter renamed changes i → ⊥)
stale_or_not None changes i = inr (λ stale. let some : Some stale.0 ≡ None = sym stale.1 in absurd cc)
stale_or_not (Some count) changes i = elim (cases_Bool (is_written (take (length changes - count) changes) i)) [
  | inl written ↦ inr (λ stale.
      let same : stale.0 ≡ count = same_some (sym stale.1) in
      let unwritten : is_written (take (length changes - count) changes) i ≡ false = subst (λ k. is_written (take (length changes - k) changes) i ≡ false) same stale.2 in
      absurd (cc (written, unwritten)))
  | inr unwritten ↦ inl (count, refl, unwritten)
]
