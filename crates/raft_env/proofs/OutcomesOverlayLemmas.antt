-- The bytes of a file with others written over them, and the lengths that a crash may leave.
use Rattle.std.proofs.lemmas.Bool.{cases_lt}
use Rattle.std.proofs.Common.{◌≡◌, ℕ, zero, suc, ◌+◌, ◌-◌, ◌<◌, ◌≤◌, max, Bool, true, false, List, [], ◌∷◌, ◌++◌, length, length-append, take, drop, get_or, refl, sym, ◌∙◌, ap, inl, inr, ◌⊎◌, arith}
use Rattle.std.proofs.lemmas.Bool.Decides.{nat_tests}
use Rattle.raft_env.specs.Outcomes.{is_within, longest_of, overlay, pad_to}
use Rattle.std.specs.Prelude.{replicate}
use Rattle.std.proofs.lemmas.List.{append-nil, take-append-drop, take-append-le, length-replicate, get_or-append_right, get_or-take, get_or-drop, get_or_past, get_or-replicate, length-take-le, length-drop}
use Rattle.std.proofs.Math.ListN.{get_or-append}

-- a write of some bytes, or of none up to the end
pub overlaid_is : (bytes : List ℕ) (at : ℕ) (given : List ℕ) → (at ≤ length bytes) ⊎ (0 < length given)
    → overlay bytes at given ≡ take at (pad_to bytes (at + length given)) ++ given ++ drop (at + length given) bytes
overlaid_is bytes at [] (inl inside) =
    let none : at + 0 ≡ at = omega arith in
    let whole = ap (λ (l : List ℕ). l ++ [] ++ drop at bytes) (take-append-le at bytes (replicate (at - length bytes) 0) inside)
    ∙ ap (λ (l : List ℕ). l ++ drop at bytes) (append-nil (take at bytes)) ∙ take-append-drop at bytes in
    sym (ap (λ (n : ℕ). take at (pad_to bytes n) ++ [] ++ drop n bytes) none ∙ whole)
overlaid_is bytes at [] (inr some) = absurd (omega (arith, some))
overlaid_is bytes at (byte ∷ given) some = refl

-- a read of the bytes with zeros after them is a read of the bytes
pub get_or-padded : (bytes : List ℕ) (n i : ℕ) → get_or (pad_to bytes n) i 0 ≡ get_or bytes i 0
get_or-padded bytes n i = elim (cases_lt i (length bytes)) [
  | inl inside ↦ get_or-append bytes _ 0 i inside
  | inr past ↦ get_or-append_right bytes (replicate (n - length bytes) 0) (length bytes) i 0 refl past ∙ zeros (n - length bytes) (i - length bytes) ∙ sym (get_or_past bytes i 0 past)
]
  where
    zeros : (n i : ℕ) → get_or (replicate {A = ℕ} n 0) i 0 ≡ 0
    zeros n i = elim (cases_lt i n) [
      | inl inside ↦ get_or-replicate n i 0 0 inside
      | inr past ↦ let none : length (replicate {A = ℕ} n 0) ≤ i = omega (arith, length-replicate {A = ℕ} n 0) in get_or_past _ i 0 none
    ]

-- a place outside the range of a write has what it had
pub overlaid_outside : (bytes : List ℕ) (at : ℕ) (given : List ℕ) (i : ℕ) → is_within at (length given) i ≡ false → get_or (overlay bytes at given) i 0 ≡ get_or bytes i 0
overlaid_outside bytes at [] i out = refl
overlaid_outside bytes at (byte ∷ rest) i out =
    let given : List ℕ = byte ∷ rest in
    let end = at + length given in
    let front = take at (pad_to bytes end) in
    let long : at ≤ length (pad_to bytes end) = omega (arith, length-append bytes (replicate {A = ℕ} (end - length bytes) 0), length-replicate {A = ℕ} (end - length bytes) 0) in
    let front_len : length front ≡ at = length-take-le at (pad_to bytes end) long in
    elim (cases_lt i at) [
      | inl before ↦
          get_or-append (front ++ given) _ 0 i (omega (arith, length-append front given)) ∙ get_or-append front given 0 i (omega arith) ∙ get_or-take at (pad_to bytes end) i 0 before
          ∙ get_or-padded bytes end i
      | inr behind ↦
          let past : end ≤ i = grind (arith, nat_tests) in
          let there : end + (i - end) ≡ i = omega arith in
          get_or-append_right (front ++ given) _ end i 0 (length-append front given ∙ ap (λ (n : ℕ). n + length given) front_len) past ∙ get_or-drop end bytes (i - end) 0
          ∙ ap (λ (n : ℕ). get_or bytes n 0) there
    ]

-- the same where only a part of the range was written
pub overlaid_outside_part : (bytes : List ℕ) (at len : ℕ) (kept : List ℕ) → length kept ≤ len → (i : ℕ) → is_within at len i ≡ false → get_or (overlay bytes at kept) i 0 ≡ get_or bytes i 0
overlaid_outside_part bytes at len kept part i out =
    let apart : is_within at (length kept) i ≡ false = grind (arith, nat_tests) in
    overlaid_outside bytes at kept i apart

pub length-overlaid : (bytes : List ℕ) (at : ℕ) (given : List ℕ) → (at ≤ length bytes) ⊎ (0 < length given) → length (overlay bytes at given) ≡ max (length bytes) (at + length given)
length-overlaid bytes at given some =
    let end = at + length given in
    let front = take at (pad_to bytes end) in
    let long : at ≤ length (pad_to bytes end) = omega (arith, length-append bytes (replicate {A = ℕ} (end - length bytes) 0), length-replicate {A = ℕ} (end - length bytes) 0) in
    let front_len : length front ≡ at = length-take-le at (pad_to bytes end) long in
    omega (arith, ap length (overlaid_is bytes at given some), length-append (front ++ given) (drop end bytes), length-append front given, length-drop end bytes)

-- a write shortens nothing, and lengthens no further than to its end
pub overlaid_bounds : (bytes : List ℕ) (at : ℕ) (given : List ℕ) → (length bytes ≤ length (overlay bytes at given)) × (length (overlay bytes at given) ≤ max (length bytes) (at + length given))
overlaid_bounds bytes at [] = (omega arith, omega arith)
overlaid_bounds bytes at (byte ∷ given) =
    let len = length-overlaid bytes at (byte ∷ given) (inr (omega arith)) in
    (omega (arith, len), omega (arith, len))

pub longest_of-more : (is_done : Bool) (at size left : ℕ) → left ≤ longest_of is_done at size left
longest_of-more true at size left = omega arith
longest_of-more false at zero left = omega arith
longest_of-more false at (suc size) left = omega arith
