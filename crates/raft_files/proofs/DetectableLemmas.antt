-- Beginnings of lists.
use Rattle.std.proofs.Common.{◌≡◌, ◌⊎◌, ℕ, ◌≤◌, List, [], ◌∷◌, ◌++◌, length, take, drop, refl, ap, sym, ◌∙◌, inl, inr, arith, append_assoc}
use Rattle.std.proofs.lemmas.List.{append-nil, take-append-drop, take_at, length-append}
use Rattle.raft_files.specs.Detectable.{IsPrefixOf}

pub prefix_itself : {A : Type 0} (xs : List A) → IsPrefixOf xs xs
prefix_itself xs = ([], sym (append-nil xs))

pub prefix_trans : {A : Type 0} (xs ys zs : List A) → IsPrefixOf xs ys → IsPrefixOf ys zs → IsPrefixOf xs zs
prefix_trans xs ys zs first second = (first.0 ++ second.0, second.1 ∙ ap (λ front. front ++ second.0) first.1 ∙ append_assoc xs first.0 second.0)

pub prefix_append : {A : Type 0} (xs ys : List A) → IsPrefixOf xs (xs ++ ys)
prefix_append xs ys = (ys, refl)

pub prefix_take : {A : Type 0} (n : ℕ) (xs : List A) → IsPrefixOf (take n xs) xs
prefix_take n xs = (drop n xs, sym (take-append-drop n xs))

pub prefix_length : {A : Type 0} (xs ys : List A) → IsPrefixOf xs ys → length xs ≤ length ys
prefix_length xs ys begins = omega (arith, ap length begins.1, length-append xs begins.0)

pub prefix_is : {A : Type 0} (xs ys : List A) → IsPrefixOf xs ys → xs ≡ take (length xs) ys
prefix_is xs ys begins = sym (ap (λ all. take (length xs) all) begins.1 ∙ take_at xs begins.0 (length xs) refl)

-- a prefix of two lists ends in the first or in the second
pub prefix_split : {A : Type 0} (xs ys zs : List A) → IsPrefixOf xs (ys ++ zs) → IsPrefixOf xs ys ⊎ ((rest : List A) × (xs ≡ ys ++ rest) × IsPrefixOf rest zs)
prefix_split xs [] zs begins = inr (xs, refl, begins)
prefix_split [] (y ∷ ys) zs begins = inl (y ∷ ys, refl)
prefix_split (x ∷ xs) (y ∷ ys) zs begins =
    let same : y ≡ x = cc (begins.1) in
    let behind : ys ++ zs ≡ xs ++ begins.0 = cc (begins.1) in
    elim (prefix_split xs ys zs (begins.0, behind)) [
      | inl within ↦ inl (within.0, cc (within.1))
      | inr further ↦ inr (further.0, cc (further.1), further.2)
    ]
