-- One change of a file, and places in its range.
use Rattle.std.proofs.Common.{◌≡◌, ◌⊎◌, ℕ, ◌+◌, ◌<◌, ◌≤◌, true, false, List, length, take, slice_index, sym, ◌∙◌, arith}
use Rattle.std.proofs.lemmas.Bool.Decides.{nat_tests}
use Rattle.std.proofs.lemmas.List.{length-take-le, get_or-take, ext_get_or}
use Rattle.raft_env.specs.Outcomes.{is_within}

pub within_is : (from size i : ℕ) → from ≤ i → i < from + size → is_within from size i ≡ true
within_is from size i above below = grind (arith, nat_tests)

pub not_within : (from size i : ℕ) → (i < from) ⊎ (from + size ≤ i) → is_within from size i ≡ false
not_within from size i outside = grind (arith, nat_tests)

pub same_front : (at : ℕ) (a b : List ℕ) → at ≤ length a → at ≤ length b → ((i : ℕ) → i < at → slice_index a i ≡ slice_index b i) → take at a ≡ take at b
same_front at a b long_a long_b same =
    let len_a : length (take at a) ≡ at = length-take-le at a long_a in
    let len_b : length (take at b) ≡ at = length-take-le at b long_b in
    ext_get_or 0 (take at a) (take at b) (omega arith)
    (λ i within. get_or-take at a i 0 (omega arith) ∙ same i (omega arith) ∙ sym (get_or-take at b i 0 (omega arith)))
