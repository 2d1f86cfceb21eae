-- What a change does to what a file keeps.
use Rattle.std.proofs.lemmas.Bool.{or_parts, cases_lt}
use Rattle.std.proofs.Common.{◌≡◌, ℕ, ◌-◌, ◌<◌, ◌≤◌, min, max, Bool, true, false, ◌||◌, List, length, length-append, take, get_or, refl, sym, ◌∙◌, ap, subst, inl, inr, arith}
use Rattle.std.proofs.lemmas.Bool.Decides.{nat_tests}
use Rattle.raft_env.specs.Outcomes.{File, MayLeave, is_within, file_after_write, file_after_resize, longest_of, pad_to}
use Rattle.raft_memory.specs.MemoryFile.{IsFileOf, is_covered}
use Rattle.std.specs.Prelude.{replicate}
use Rattle.std.proofs.lemmas.List.{length-replicate, get_or-take, get_or_past, length-take-le}
use Rattle.raft_env.proofs.OutcomesOverlayLemmas.{get_or-padded, longest_of-more}

or_comm : (a b : Bool) → (a || b) ≡ (b || a)
or_comm true true = refl
or_comm true false = refl
or_comm false true = refl
or_comm false false = refl

-- a change of the bytes in one range, which is added to the ranges
module _ (bytes synced : List ℕ) (ranges more : List (ℕ × ℕ)) (low high : ℕ) (file : File) (k : IsFileOf bytes synced ranges low high file) where
  -- after a write, the file keeps what it should
  pub file_written : (at : ℕ) (given after : List ℕ) (is_done : Bool) → ((i : ℕ) → is_covered more i ≡ (is_covered ranges i || is_within at (length given) i))
      → ((i : ℕ) → is_within at (length given) i ≡ false → get_or after i 0 ≡ get_or bytes i 0)
      → IsFileOf after synced more (min low (length after)) (max high (longest_of is_done at (length given) (length after))) (file_after_write at given is_done after file)
  file_written at given after is_done added outside = record {
    now = refl;
    on_disk = k.on_disk;
    touched = λ i. ap (λ b. is_within at (length given) i || b) (k.touched i) ∙ or_comm (is_within at (length given) i) (is_covered ranges i) ∙ sym (added i);
    agree = record { each = λ i out. let apart = or_parts _ _ (sym (added i) ∙ out) in outside i apart.1 ∙ k.agree.each i apart.0 };
    low_is = omega (arith, k.low_is);
    high_is = omega (arith, k.high_is);
    above_low = omega arith;
    below_high = omega (arith, longest_of-more is_done at (length given) (length after));
  }

  -- so it does after a change of the length, if the bytes up to the lesser length stay and zeros follow
  file_resized : (after : List ℕ) (from len : ℕ) → from ≡ min (length after) (length bytes) → len ≡ max (length after) (length bytes) - from
      → ((i : ℕ) → is_covered more i ≡ (is_covered ranges i || is_within from len i))
      → ((i : ℕ) → is_within from len i ≡ false → get_or after i 0 ≡ get_or bytes i 0)
      → IsFileOf after synced more (min low (length after)) (max high (length after)) (file_after_resize after file)
  file_resized after from len from_is len_is added outside =
      let now_len : length file.now ≡ length bytes = ap length k.now in
      let first : min (length after) (length file.now) ≡ from = omega arith in
      let size : max (length after) (length file.now) - from ≡ len = omega arith in
      record {
        now = refl;
        on_disk = k.on_disk;
        touched = λ i. rw (first, size) (ap (λ b. is_within from len i || b) (k.touched i) ∙ or_comm (is_within from len i) (is_covered ranges i) ∙ sym (added i));
        agree = record { each = λ i out. let apart = or_parts _ _ (sym (added i) ∙ out) in outside i apart.1 ∙ k.agree.each i apart.0 };
        low_is = omega (arith, k.low_is);
        high_is = omega (arith, k.high_is);
        above_low = omega arith;
        below_high = omega arith;
      }

  pub file_cut : (from : ℕ) → from ≤ length bytes → ((i : ℕ) → is_covered more i ≡ (is_covered ranges i || is_within from (length bytes - from) i))
      → IsFileOf (take from bytes) synced more (min low from) (max high from) (file_after_resize (take from bytes) file)
  file_cut from fits added =
      let len : length (take from bytes) ≡ from = length-take-le from bytes fits in
      let kept = file_resized (take from bytes) from (length bytes - from) (omega arith) (omega arith) added (λ i out. elim (cases_lt i from) [
        | inl inside ↦ get_or-take from bytes i 0 inside
        | inr behind ↦ let past : length bytes ≤ i = grind (arith, nat_tests) in get_or_past _ i 0 (omega arith) ∙ sym (get_or_past bytes i 0 past)
      ]) in
      subst (λ n. IsFileOf (take from bytes) synced more (min low n) (max high n) (file_after_resize (take from bytes) file)) len kept

  pub file_lengthened : (size : ℕ) → ((i : ℕ) → is_covered more i ≡ (is_covered ranges i || is_within (length bytes) (max size (length bytes) - length bytes) i))
      → IsFileOf (pad_to bytes size) synced more (min low (max size (length bytes))) (max high (max size (length bytes))) (file_after_resize (pad_to bytes size) file)
  file_lengthened size added =
      let len : length (pad_to bytes size) ≡ max size (length bytes) = omega (arith, length-append bytes (replicate {A = ℕ} (size - length bytes) 0), length-replicate {A = ℕ} (size - length bytes) 0) in
      let kept = file_resized (pad_to bytes size) (length bytes) (max size (length bytes) - length bytes) (omega arith) (omega arith) added (λ i out. get_or-padded bytes size i) in
      subst (λ n. IsFileOf (pad_to bytes size) synced more (min low n) (max high n) (file_after_resize (pad_to bytes size) file)) len kept

module _ (bytes synced : List ℕ) (ranges : List (ℕ × ℕ)) (low high : ℕ) (file : File) (k : IsFileOf bytes synced ranges low high file) where
  -- what differs from the bytes in touched places alone may be left
  pub may_leave : (left : List ℕ) → low ≤ length left → length left ≤ high → ((i : ℕ) → i < length left → i < length synced → is_covered ranges i ≡ false → get_or left i 0 ≡ get_or synced i 0) → MayLeave file left
  may_leave left long short same = record {
    no_shorter = omega (arith, k.low_is);
    no_longer = omega (arith, k.high_is);
    untouched = λ i h s apart.
        let within : i < length synced = omega (arith, ap length k.on_disk) in
        same i h within (sym (k.touched i) ∙ apart) ∙ ap (λ (l : List ℕ). get_or l i 0) (sym k.on_disk);
  }
