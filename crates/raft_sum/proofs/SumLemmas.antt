-- What a hasher holds after two updates.
use Rattle.std.proofs.Common.{◌≡◌, ℕ, List, ◌++◌, ap, ◌∙◌, subst, append_assoc, refl}
use Rattle.sha2.specs.Hashers.{Holds256}
use Rattle.sha2.specs.declared.Sha256.{Sha256}

-- two pieces are held as one
pub held_as_one : (s : Sha256) (m x y z : List ℕ) → Holds256 s ((m ++ x) ++ y) → x ++ y ≡ z → Holds256 s (m ++ z)
held_as_one s m x y z holds is = subst (λ l. Holds256 s l) (append_assoc m x y ∙ ap (λ (l : List ℕ). m ++ l) is) holds

-- three are
pub held_in_three : (s : Sha256) (m x y z w : List ℕ) → Holds256 s (((m ++ x) ++ y) ++ z) → x ++ (y ++ z) ≡ w → Holds256 s (m ++ w)
held_in_three s m x y z w holds is =
    held_as_one s m x (y ++ z) w (held_as_one s (m ++ x) y z (y ++ z) holds refl) is
