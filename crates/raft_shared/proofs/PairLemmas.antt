-- Equal pairs of numbers.
use Rattle.std.proofs.Common.{◌≡◌, ℕ, Bool, List, ap, nat_eq}
use Rattle.std.specs.Prelude.{◌&&◌}
use Rattle.std.specs.Bool.{Decides}
use Rattle.std.specs.Cmp.Lexicographic.{pointwise}
use Rattle.std.proofs.lemmas.Bool.{and_from, and_parts, eq-eqb, eqb-true}
use Rattle.std.proofs.lemmas.Slice.Eq.{slice_eq-Decides}

same_pair : (a b : ℕ × ℕ) → Decides (nat_eq a.0 b.0 && nat_eq a.1 b.1) (a ≡ b)
same_pair a b = (
  (λ same i. (eqb-true a.0 b.0 (and_parts (nat_eq a.0 b.0) (nat_eq a.1 b.1) same).0 i, eqb-true a.1 b.1 (and_parts (nat_eq a.0 b.0) (nat_eq a.1 b.1) same).1 i)),
  (λ is. and_from (nat_eq a.0 b.0) (nat_eq a.1 b.1) (eq-eqb a.0 b.0 (ap (λ (p : ℕ × ℕ). p.0) is)) (eq-eqb a.1 b.1 (ap (λ (p : ℕ × ℕ). p.1) is))),
)

pub same_pairs : (xs ys : List (ℕ × ℕ)) (r : Bool) → r ≡ pointwise (λ (a b : ℕ × ℕ). nat_eq a.0 b.0 && nat_eq a.1 b.1) xs ys → Decides r (xs ≡ ys)
same_pairs = slice_eq-Decides same_pair
