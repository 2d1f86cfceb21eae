-- Bytes of a file, of which the last zeros aren't stored.
use Rattle.std.proofs.lemmas.Bool.{cases_lt}
use borrow.Rule.Slice.PartMut.{post_of}
use Rattle.std.proofs.Common.{◌≡◌, ℕ, ◌+◌, ◌-◌, ◌<◌, ◌≤◌, min, max, Bool, true, false, List, [], length, length-append, ◌++◌, take, drop, get_or, refl, sym, ◌∙◌, ap, inl, inr, arith}
use Rattle.std.specs.Prelude.{replicate}
use Rattle.std.proofs.lemmas.Bool.Decides.{nat_tests}
use Rattle.std.proofs.lemmas.List.{append-nil, drop_all, length-drop, length-replicate, length-take, get_or-append_right, get_or-drop, get_or_past, get_or-replicate, get_or-take, take-append-le, take_all}
use Rattle.std.proofs.lemmas.Grind.{same_number_lists}
use Rattle.std.proofs.Math.ListN.{get_or-append}
use Rattle.raft_env.specs.Outcomes.{is_within, overlay, pad_to}
use Rattle.raft_env.proofs.OutcomesOverlayLemmas.{get_or-padded, length-overlaid, overlaid_is, overlaid_outside}

pub length-padded : (bytes : List ℕ) (n : ℕ) → length (pad_to bytes n) ≡ max n (length bytes)
length-padded bytes n = omega (arith, length-append bytes (replicate {A = ℕ} (n - length bytes) 0), length-replicate {A = ℕ} (n - length bytes) 0)

pub padded_again : (bytes : List ℕ) (n size : ℕ) → length bytes ≤ n → pad_to bytes (max n size) ≡ pad_to (pad_to bytes n) size
padded_again bytes n size within = same_number_lists _ _
    (omega (arith, length-padded bytes (max n size), length-padded bytes n, length-padded (pad_to bytes n) size))
    (λ i h. get_or-padded bytes (max n size) i ∙ sym (get_or-padded bytes n i) ∙ sym (get_or-padded (pad_to bytes n) size i))

-- at most to where they end nothing is added
pub padded_to : (bytes : List ℕ) (size : ℕ) → pad_to bytes (max size (length bytes)) ≡ pad_to bytes size
padded_to bytes size =
    let same : max size (length bytes) - length bytes ≡ size - length bytes = omega arith in
    ap (λ (n : ℕ). bytes ++ replicate n 0) same

-- what a write put into its range
overlaid_inside : (bytes : List ℕ) (at : ℕ) (given : List ℕ) (i : ℕ) → 0 < length given → is_within at (length given) i ≡ true → get_or (overlay bytes at given) i 0 ≡ get_or given (i - at) 0
overlaid_inside bytes at given i some inside =
    let end = at + length given in
    let front = take at (pad_to bytes end) in
    let front_len : length front ≡ at = omega (arith, length-take at (pad_to bytes end), length-padded bytes end) in
    let above : at ≤ i = grind (arith, nat_tests) in
    let below : i < end = grind (arith, nat_tests) in
    ap (λ (l : List ℕ). get_or l i 0) (overlaid_is bytes at given (inr some))
    ∙ get_or-append (front ++ given) (drop end bytes) 0 i (omega (arith, length-append front given))
    ∙ get_or-append_right front given at i 0 front_len above

-- a write over bytes that are padded then, where they were padded before it
pub overlaid_padded : (bytes : List ℕ) (at n : ℕ) (given : List ℕ) → 0 < length given → length bytes ≤ n
    → pad_to (overlay bytes at given) (max n (at + length given)) ≡ overlay (pad_to bytes n) at given
overlaid_padded bytes at n given some within = same_number_lists _ _
    (omega (arith, length-padded (overlay bytes at given) (max n (at + length given)), length-overlaid bytes at given (inr some), length-overlaid (pad_to bytes n) at given (inr some), length-padded bytes n))
    (λ i h. get_or-padded (overlay bytes at given) (max n (at + length given)) i ∙ one i (is_within at (length given) i) refl)
  where
    one : (i : ℕ) (b : Bool) → is_within at (length given) i ≡ b → get_or (overlay bytes at given) i 0 ≡ get_or (overlay (pad_to bytes n) at given) i 0
    one i true e = overlaid_inside bytes at given i some e ∙ sym (overlaid_inside (pad_to bytes n) at given i some e)
    one i false e = overlaid_outside bytes at given i e ∙ sym (get_or-padded bytes n i) ∙ sym (overlaid_outside (pad_to bytes n) at given i e)

-- a slice of which the first bytes and then all others were written
pub put_in_two : (first bytes rest : List ℕ) (n : ℕ) → length first ≡ n → n ≤ length bytes
    → take n (first ++ drop n bytes) ++ (rest ++ post_of n (length (first ++ drop n bytes) - n) (first ++ drop n bytes)) ≡ first ++ rest
put_in_two first bytes rest n len within =
    let whole = first ++ drop n bytes in
    let front : take n whole ≡ first = take-append-le n first (drop n bytes) (omega (arith, len)) ∙ take_all n first (omega (arith, len)) in
    let none : post_of n (length whole - n) whole ≡ [] = drop_all (length whole - n) (drop n whole) (omega (arith, length-drop n whole)) in
    ap (λ (l : List ℕ). l ++ (rest ++ post_of n (length whole - n) whole)) front
    ∙ ap (λ (l : List ℕ). first ++ (rest ++ l)) none
    ∙ ap (λ (l : List ℕ). first ++ l) (append-nil rest)

-- bytes from a place on, of which the first are copied and the others are zeros
pub copied_part : (bytes first copy : List ℕ) (at n len count : ℕ) → at + len ≤ length (pad_to bytes n) → count ≡ min len (length bytes - at)
    → first ≡ take count (drop at bytes) → copy ≡ first ++ replicate (len - count) 0 → copy ≡ take len (drop at (pad_to bytes n))
copied_part bytes first copy at n len count within count_is first_is copy_is = copy_is ∙ same_number_lists _ _
    (omega (arith, first_len, length-append first zeros, length-replicate {A = ℕ} (len - count) 0, length-take len (drop at (pad_to bytes n)), length-drop at (pad_to bytes n)))
    (λ i h.
    let inside : i < len = omega (arith, first_len, length-append first zeros, length-replicate {A = ℕ} (len - count) 0) in
    one i inside ∙ sym (get_or-take len (drop at (pad_to bytes n)) i 0 inside ∙ get_or-drop at (pad_to bytes n) i 0 ∙ get_or-padded bytes n (at + i)))
  where
    zeros : List ℕ
    zeros = replicate (len - count) 0

    first_len : length first ≡ count
    first_len = ap length first_is ∙ omega (arith, count_is, length-take count (drop at bytes), length-drop at bytes)

    one : (i : ℕ) → i < len → get_or (first ++ zeros) i 0 ≡ get_or bytes (at + i) 0
    one i h = elim (cases_lt i count) [
      | inl before ↦ get_or-append first zeros 0 i (omega (arith, first_len)) ∙ ap (λ (l : List ℕ). get_or l i 0) first_is ∙ get_or-take count (drop at bytes) i 0 before ∙ get_or-drop at bytes i 0
      | inr behind ↦ get_or-append_right first zeros count i 0 first_len behind ∙ get_or-replicate (len - count) (i - count) 0 0 (omega arith) ∙ sym (get_or_past bytes (at + i) 0 (omega (arith, count_is)))
    ]
