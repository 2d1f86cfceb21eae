-- The limits of scans and fetches.
use Rattle.std.specs.Prelude.{◌≡◌, ◌≤◌, ◌-◌, ℕ, List, take, Option, Some, None, if◌then◌else◌, nat_eq}

-- a bound that is given as a number; 0 is none
abbrev pub max_of : ℕ → Option ℕ
max_of size = if nat_eq size 0 then None else Some size

-- the first ones, as many as the limit
abbrev pub limited : {A : Type 0} → Option ℕ → List A → List A
limited None xs = xs
limited (Some n) xs = take n xs

-- this much of a limit is left after `n`
abbrev pub IsLeft : Option ℕ → ℕ → Option ℕ → Type 0
IsLeft None n left = left ≡ None
IsLeft (Some most) n left = (n ≤ most) × (left ≡ Some (most - n))

-- the limit is at least one, and this much is left after one
abbrev pub IsOneLess : Option ℕ → Option ℕ → Type 0
IsOneLess None left = left ≡ None
IsOneLess (Some n) left = (1 ≤ n) × (left ≡ Some (n - 1))
