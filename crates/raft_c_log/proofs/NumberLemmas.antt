-- Groups and the numbers beside them, one more at a time.
use Rattle.std.proofs.Common.{◌≡◌, ◌∙◌, ◌+◌, ◌<◌, ℕ, List, [], ◌∷◌, ◌++◌, ap, arith, get_or, length, take}
use Rattle.std.specs.Prelude.{zip}
use Rattle.std.proofs.lemmas.List.{take_more}
use Rattle.std.proofs.lemmas.Slice.Zip.{get_or-zip, length-zip}

pub zip_more : (groups numbers : List ℕ) (place : ℕ) → place < length groups → place < length numbers
    → take (place + 1) (zip groups numbers) ≡ take place (zip groups numbers) ++ (get_or groups place 0, get_or numbers place 0) ∷ []
zip_more groups numbers place a b =
    take_more (zip groups numbers) place (0, 0) (omega (arith, a, b, length-zip groups numbers))
    ∙ ap (λ (p : ℕ × ℕ). take place (zip groups numbers) ++ p ∷ []) (get_or-zip groups numbers place (0, 0) a b)
