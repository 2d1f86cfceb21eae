-- Which groups are among the first ones from a number on.
use Rattle.std.specs.Prelude.{◌≡◌, ◌&&◌, ℕ, Bool, true, nat_eq, nat_le, nat_lt, List, Option, None, Some}
use Rattle.std.specs.List.{IsDistinct, list_any}

-- a group comes before the one that follows, if there is one
abbrev pub comes_before : Option ℕ → ℕ → Bool
comes_before None group = true
comes_before (Some next) group = nat_lt group next

-- the group comes before the one that follows, and not before this number
abbrev pub is_between : ℕ → Option ℕ → ℕ → Bool
is_between from next group = nat_le from group && comes_before next group

-- distinct numbers: those of these that come before one of them
pub record IsFront (all front : List ℕ) (next : ℕ) : Type 0 where
  pub has : list_any (nat_eq next) all ≡ true
  pub distinct : IsDistinct nat_eq front
  pub any : (g : ℕ) → list_any (nat_eq g) front ≡ (list_any (nat_eq g) all && nat_lt g next)
