-- What a torn write leaves of a file, and that storage may leave what choices do that name no bytes.
use Rattle.std.proofs.Common.{◌≡◌, ℕ, zero, suc, ◌+◌, ◌-◌, ◌<◌, ◌≤◌, Bool, true, false, cond, leb, ◌&&◌, List, length, get_or, take, slice_index, slice_index_or, refl, ap, sym, subst, ◌∙◌, inl, inr, arith}
use Rattle.std.proofs.lemmas.Bool.{cases_Bool, cases_lt}
use Rattle.std.proofs.lemmas.Bool.Decides.{nat_tests}
use Rattle.std.proofs.lemmas.List.{get_or_past}
use Rattle.std.proofs.lemmas.List.Elements.{All-get_or}
use Rattle.std.proofs.lemmas.List.FromFn.{length-map-range_with_len, get_or-map-range_with_len}
use Rattle.std.specs.FinMap as finite
use Rattle.raft_env.specs.Outcomes.{File, MayLeave, is_touched}
use Rattle.raft_env.specs.Directory.{Directory, Leaves}
use Rattle.raft_memory.specs.Choice.{torn_bytes, torn_byte, touched_before, bytes_by_choice, bytes_by_choice_at, choice_for, left_by, NamesNoBytes, NameNoBytes}
use Rattle.raft_env.specs.Consistent.{IsConsistent, AreConsistent}
use Rattle.raft_memory.specs.declared.crash.Choice.{Choice}
use Rattle.raft_memory.specs.declared.crash.Choice.TheVariants as choice
use Rattle.raft_env.proofs.OutcomesLemmas.{same_front}
use Rattle.raft_memory.proofs.ChoiceLemmas.{synced_may_be_left}
use Rattle.raft_env.proofs.ConsistentLemmas.{now_may_be_left, length_now}

module _ (touched : ℕ → Bool) (kept fill : ℕ) (now : List ℕ) where
  pub length-torn : length (torn_bytes touched kept fill now) ≡ length now
  length-torn = length-map-range_with_len (torn_byte touched kept fill now) 0 (length now)

  torn_byte_at : (i : ℕ) → i < length now → slice_index (torn_bytes touched kept fill now) i ≡ torn_byte touched kept fill now i
  torn_byte_at i inside = get_or-map-range_with_len (torn_byte touched kept fill now) 0 (length now) i i 0 inside (omega arith)

  -- a place that was not touched keeps its byte
  pub torn_untouched : (i : ℕ) → i < length now → touched i ≡ false → slice_index (torn_bytes touched kept fill now) i ≡ slice_index now i
  torn_untouched i inside apart = torn_byte_at i inside ∙ ap (λ b. cond (b && leb kept (touched_before touched i)) fill (get_or now i 0)) apart

  touched_before_more : (i n : ℕ) → touched_before touched i ≤ touched_before touched (i + n)
  touched_before_more i zero =
      let same : i + zero ≡ i = omega arith in
      omega (arith, ap (touched_before touched) same)
  touched_before_more i (suc n) =
      let more : touched_before touched (suc (i + n)) ≡ touched_before touched (i + n) + cond (touched (i + n)) 1 0 = refl in
      let same : i + suc n ≡ suc (i + n) = omega arith in
      omega (arith, touched_before_more i n, more, ap (touched_before touched) same)

  touched_before_here : (i : ℕ) → touched i ≡ true → touched_before touched (suc i) ≡ touched_before touched i + 1
  touched_before_here i is = ap (λ b. touched_before touched i + cond b 1 0) is

  -- a place before the first lost one keeps its byte
  torn_kept : (i end : ℕ) → i < end → touched_before touched end ≤ kept → torn_byte touched kept fill now i ≡ slice_index now i
  torn_kept i end before enough = elim (cases_Bool (touched i)) [
    | inl is ↦
        let more = touched_before_more (suc i) (end - suc i) in
        let there : suc i + (end - suc i) ≡ end = omega arith in
        let few : touched_before touched i < kept = omega (arith, more, ap (touched_before touched) there, touched_before_here i is) in
        let test : leb kept (touched_before touched i) ≡ false = grind (arith, nat_tests) in
        ap (λ b. cond (b && leb kept (touched_before touched i)) fill (get_or now i 0)) is ∙ ap (λ b. cond b fill (get_or now i 0)) test
    | inr apart ↦ ap (λ b. cond (b && leb kept (touched_before touched i)) fill (get_or now i 0)) apart
  ]

  -- the prefix that was kept stands
  pub take-torn : (end : ℕ) → end ≤ length now → touched_before touched end ≤ kept → take end (torn_bytes touched kept fill now) ≡ take end now
  take-torn end within enough = same_front end (torn_bytes touched kept fill now) now (omega (arith, length-torn)) within (λ i before. torn_byte_at i (omega arith) ∙ torn_kept i end before enough)

-- storage may leave it
pub torn_may_be_left : (file : File) (kept fill : ℕ) → IsConsistent file → MayLeave file (torn_bytes (is_touched file.changes) kept fill file.now)
torn_may_be_left file kept fill is =
    let len = length-torn (is_touched file.changes) kept fill file.now in
    record {
      no_shorter = omega (arith, len, (length_now file is).0);
      no_longer = omega (arith, len, (length_now file is).1);
      untouched = λ i within stood apart. torn_untouched (is_touched file.changes) kept fill file.now i (omega (arith, len)) apart ∙ (is.untouched i stood apart).1;
    }

-- Choices that name no bytes.

pub choice_may_leave : (file : File) → IsConsistent file → (c : Choice) → NamesNoBytes c → MayLeave file (bytes_by_choice c file)
choice_may_leave file is choice.All none = now_may_be_left file is
choice_may_leave file is choice.Synced none = synced_may_be_left file
choice_may_leave file is (choice.Torn kept fill) none = torn_may_be_left file kept fill is
choice_may_leave file is (choice.Bytes bytes) none = absurd none

-- each path's choice is one of these, or `Synced`
pub no_bytes_at_turn : (choices : List Choice) → NameNoBytes choices → (i : ℕ) → NamesNoBytes (slice_index_or choices i choice.Synced)
no_bytes_at_turn choices none i = elim (cases_lt i (length choices)) [
  | inl within ↦ All-get_or NamesNoBytes choices i choice.Synced within none
  | inr past ↦ subst NamesNoBytes (sym (get_or_past choices i choice.Synced past)) tt
]

-- what choices leave that name no bytes
pub choices_may_leave : (choices : List Choice) (n : Directory) → NameNoBytes choices → AreConsistent n → Leaves n (left_by choices n)
choices_may_leave choices n none all = record {
  each = λ path file stands.
      let c = choice_for choices (finite.keys n.files) path in
      subst (λ found. MayLeave file (bytes_by_choice_at c found)) (sym stands) (choice_may_leave file (all path file stands) c (no_bytes_at_turn choices none _));
}
