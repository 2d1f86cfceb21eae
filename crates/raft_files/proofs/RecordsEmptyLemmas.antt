-- What stands after the records of a log file.
use Rattle.std.proofs.Common.{◌≡◌, ◌⊎◌, ℕ, zero, suc, ◌+◌, ◌<◌, ◌≤◌, List, [], ◌∷◌, length, take, drop, replicate, slice_index, Option, Some, None, refl, ap, sym, ◌∙◌, inl, inr, arith}
use Rattle.std.proofs.lemmas.Bool.{cases_lt}
use Rattle.std.proofs.lemmas.Bool.Decides.{nat_tests}
use Rattle.std.proofs.lemmas.List.{length-take-le, length-replicate, get_or-take, get_or-drop, get_or-replicate, ext_get_or}
use Rattle.std.specs.Int.{w64, from_be_bytes}
use Rattle.raft_records.specs.Record.{Header, header_in, record_header}
use Rattle.raft_base.specs.declared.pipe_log.FileId.{FileId}
use Rattle.raft_env.specs.Outcomes.{Change}
use Rattle.raft_files.specs.Scan.{PlacedRecord, record_at}
use Rattle.raft_files.specs.Detectable.{HasNoByteOfFailedCall, IsFromCompletedCall, IsFreshAfter}
use Rattle.raft_files.specs.Records.{IsRefusedAt, IsEmptyFrom, HasNothingFrom}
use Rattle.raft_files.proofs.ScanExtentLemmas.{record_header_is, record_header_long}
use Rattle.raft_files.proofs.ScanLemmas.{found_record, read_in}
use Rattle.raft_files.proofs.DetectableStaleLemmas.{GivesNoneFrom, fresh_before, not_given, untried_not_fresh}

header_in_zero : (footer : ℕ) → header_in 0 footer ≡ None
header_in_zero footer = grind (arith, nat_tests)

zero_number : from_be_bytes w64 (replicate 8 0) ≡ 0
zero_number = refl

-- a header that begins with zeros can't be read
pub record_header_zeros : (bytes : List ℕ) (at : ℕ) (header : Header) → at + 8 ≤ length bytes → ((i : ℕ) → at ≤ i → i < at + 8 → slice_index bytes i ≡ 0) → record_header (drop at bytes) ≡ Some header → ⊥
record_header_zeros bytes at header long zeros e =
    let has = record_header_is (drop at bytes) header e in
    let front = take 8 (drop at bytes) in
    let len : length front ≡ 8 = length-take-le 8 (drop at bytes) (omega (arith, has.long)) in
    let none : front ≡ replicate 8 0 =
    ext_get_or 0 front (replicate 8 0) (omega (arith, len, length-replicate {A = ℕ} 8 0))
    (λ i within. get_or-take 8 (drop at bytes) i 0 (omega (arith, len)) ∙ get_or-drop at bytes i 0 ∙ zeros (at + i) (omega arith) (omega (arith, len)) ∙ sym (get_or-replicate {A = ℕ} 8 i 0 0 (omega (arith, len)))) in
    let other = from_be_bytes w64 (take 8 (drop 8 (drop at bytes))) in
    let nothing : record_header (drop at bytes) ≡ None = record_header_long (drop at bytes) has.long ∙ ap (λ b. header_in (from_be_bytes w64 b) other) none ∙ ap (λ n. header_in n other) zero_number ∙ header_in_zero other in
    absurd cc

-- so many bytes are zeros, or one of them is found
search_bytes : (Q : ℕ → Type 0) (bytes : List ℕ) (n at : ℕ) → ((i : ℕ) → at ≤ i → i < at + n → (slice_index bytes i ≡ 0) ⊎ Q i) →
    ((i : ℕ) → at ≤ i → i < at + n → slice_index bytes i ≡ 0) ⊎ ((i : ℕ) × (at ≤ i) × (i < at + n) × Q i)
search_bytes Q bytes zero at each = inl (λ i from upto. absurd (omega arith))
search_bytes Q bytes (suc n) at each =
    elim (each at (omega arith) (omega arith)) [
      | inr here ↦ inr (at, omega arith, omega arith, here)
      | inl here ↦ elim (search_bytes Q bytes n (at + 1) (λ i from upto. each i (omega arith) (omega arith))) [
        | inr further ↦ inr (further.0, omega (arith, further.1), omega (arith, further.2), further.3)
        | inl zeros ↦ inl (λ i from upto. elim (cases_lt at i) [
          | inl more ↦ zeros i (omega arith) (omega arith)
          | inr same ↦ let is : i ≡ at = omega arith in ap (λ k. slice_index bytes k) is ∙ here
        ])
      ]
    ]

-- what is read where zeros and bytes of failed calls stand, or stale ones, isn't done or begins at a stale place, by whatever signature what these calls were to write is judged
pub none_done : (signature by : Option ℕ) (bytes : List ℕ) (renamed : Option ℕ) (changes : List Change) (from : ℕ) → IsEmptyFrom from bytes renamed changes → (r : PlacedRecord) → from ≤ r.at → record_at signature bytes r.at ≡ Some r → HasNoByteOfFailedCall by changes r → IsFreshAfter by renamed changes r → ⊥
none_done signature by bytes renamed changes from (inr untried) r behind is no_byte fresh = untried_not_fresh by renamed changes r (untried r.at behind) fresh
none_done signature by bytes renamed changes from (inl empty) r behind is no_byte fresh =
    let found = found_record signature bytes r.at r is in
    elim (search_bytes (IsRefusedAt changes) bytes 8 r.at (λ i above below. empty i (omega arith) (omega (arith, found.long, found.within)))) [
      | inl zeros ↦ record_header_zeros bytes r.at found.header (omega (arith, found.long, found.within)) zeros found.has
      | inr refused ↦
          let i = refused.0 in
          let q : IsRefusedAt changes i = refused.3 in
          let given = no_byte q.0 q.1 q.2 q.3 q.4 (i, refused.1, omega (arith, refused.2, found.long), q.6, q.7) in
          not_given by r q.1 q.5 given
    ]

pub done_without_byte : (id : FileId) (by : Option ℕ) (changes : List Change) (r : PlacedRecord) → HasNoByteOfFailedCall by changes r → IsFromCompletedCall id by changes r
done_without_byte id by [] r no_byte = tt
done_without_byte id by (c ∷ changes) r no_byte = inl no_byte

-- .. so no record is done after a place where none was before the change
pub has_nothing_after : (id : FileId) (from at : ℕ) (c : Change) (renamed : Option ℕ) (changes : List Change) → HasNothingFrom id from c.before renamed changes → from ≤ at → GivesNoneFrom at c → IsEmptyFrom at c.after renamed (c ∷ changes) → HasNothingFrom id at c.after renamed (c ∷ changes)
has_nothing_after id from at c renamed changes nothing further none empty by r has behind completed fresh = elim completed [
  | inl no_byte ↦ let is = read_in id c.after r has in none_done is.signature by c.after renamed (c ∷ changes) at empty r behind is.is no_byte fresh
  | inr earlier ↦ nothing by r earlier.0 (omega arith) earlier.1 (fresh_before by renamed c changes at r none behind fresh)
]

-- nothing is read after the end of the bytes
pub has_nothing_past : (id : FileId) (at : ℕ) (bytes : List ℕ) (renamed : Option ℕ) (changes : List Change) → length bytes ≤ at → HasNothingFrom id at bytes renamed changes
has_nothing_past id at bytes renamed changes short by r has behind completed fresh = let is = read_in id bytes r has in absurd (omega (arith, is.long, is.within))
