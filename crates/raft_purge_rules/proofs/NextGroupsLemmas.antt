-- Ascending numbers from one on, those of them before one, and what they cost.
use Rattle.std.proofs.Common.{◌≡◌, ◌∙◌, ◌+◌, ◌*◌, ◌<◌, ◌≤◌, ◌++◌, ◌⊎◌, ℕ, Bool, true, false, List, [], ◌∷◌, ◌&&◌, Option, None, Some, inl, inr, drop, length, refl, sym, ap, subst, arith}
use Rattle.std.specs.Prelude.{◌-◌, nat_eq, nat_le, nat_lt, if◌then◌else◌}
use Rattle.std.specs.List.{AllByRecursion as Each, list_any, sum_by}
use Rattle.std.specs.List.Sorted.{IsStrictlySortedBy}
use Rattle.std.specs.Option.{IfSome}
use Rattle.std.specs.Ordering.{nat_cmp}
use Rattle.std.specs.declared.cmp.Ordering.TheVariants.{Less}
use Rattle.std.proofs.lemmas.Bool.{and_parts, cases_Bool}
use Rattle.std.proofs.lemmas.Bool.Decides.{nat_tests}
use Rattle.std.proofs.lemmas.List.Sums.{sum_by-cons}
use Rattle.raft_tables.specs.GroupsFrom.{comes_before, is_between}
use Rattle.raft_tables.specs.ToMove.{left_of}
use Rattle.raft_tables.proofs.GroupsFromLemmas.{any_before, any_mid, less_before}

each_front : (P : ℕ → Type 0) (xs zs : List ℕ) → Each P (xs ++ zs) → Each P xs
each_front P [] zs each = tt
each_front P (x ∷ xs) zs each = (each.0, each_front P xs zs each.1)

pub sorted_front : (xs zs : List ℕ) → IsStrictlySortedBy nat_cmp (xs ++ zs) → IsStrictlySortedBy nat_cmp xs
unfolding IsStrictlySortedBy
sorted_front [] zs sorted = tt
sorted_front (x ∷ xs) zs sorted = (each_front (λ y. nat_cmp x y ≡ Less) xs zs sorted.0, sorted_front xs zs sorted.1)

regroup : (s l b c : Bool) → (c ≡ true → b ≡ true) → ((s && (l && b)) && c) ≡ (s && (l && c))
regroup false l b c on = refl
regroup true false b c on = refl
regroup true true b true on = on_true b (on refl)
  where
    on_true : (x : Bool) → x ≡ true → (x && true) ≡ true
    on_true true is = refl
    on_true false is = is
regroup true true b false on = off b
  where
    off : (x : Bool) → (x && false) ≡ false
    off true = refl
    off false = refl

-- all numbers from one on and before the next, of those that are known
module _ (from : ℕ) (next : Option ℕ) (all : List ℕ) (is_known : ℕ → Bool) (shown : (k : ℕ) → list_any (nat_eq k) all ≡ (is_known k && is_between from next k)) where
  pub found_in : (k : ℕ) → list_any (nat_eq k) all ≡ true → (is_known k ≡ true) × ((nat_le from k ≡ true) × (comes_before next k ≡ true))
  found_in k there =
      let parts = and_parts (is_known k) (is_between from next k) (sym (shown k) ∙ there) in
      (parts.0, and_parts (nat_le from k) (comes_before next k) parts.1)

  -- those before one of them
  module _ (g : ℕ) (xs ys : List ℕ) (is : xs ++ g ∷ ys ≡ all) (sorted : IsStrictlySortedBy nat_cmp all) where
    up : IsStrictlySortedBy nat_cmp (xs ++ g ∷ ys)
    up = subst (IsStrictlySortedBy nat_cmp) (sym is) sorted

    pub one_of_all : (is_known g ≡ true) × ((nat_le from g ≡ true) × (comes_before next g ≡ true))
    one_of_all = found_in g (ap (list_any (nat_eq g)) (sym is) ∙ any_mid g xs ys)

    pub each_of_some : (k : ℕ) → list_any (nat_eq k) xs ≡ (is_known k && (nat_le from k && nat_lt k g))
    each_of_some k =
        any_before k g xs ys up
        ∙ ap (λ zs. list_any (nat_eq k) zs && nat_lt k g) is
        ∙ ap (λ b. b && nat_lt k g) (shown k)
        ∙ regroup (is_known k) (nat_le from k) (comes_before next k) (nat_lt k g) (less_before next g k one_of_all.1.1)

    pub next_above : 0 < length xs → from < g
    next_above some = above xs refl some
      where
        above : (zs : List ℕ) → xs ≡ zs → 0 < length zs → from < g
        above [] same none = absurd (omega (arith, none))
        above (z ∷ zs) same some =
            let there : list_any (nat_eq z) xs ≡ true = ap (list_any (nat_eq z)) same ∙ any_mid z [] zs in
            let parts = and_parts (nat_le from z) (nat_lt z g) (and_parts (is_known z) (nat_le from z && nat_lt z g) (sym (each_of_some z) ∙ there)).1 in
            grind (arith, nat_tests, parts.0, parts.1)

  -- the next one of all
  pub last_above : (n : ℕ) → next ≡ Some n → 0 < length all → from < n
  last_above n same some = above all refl some
    where
      above : (zs : List ℕ) → all ≡ zs → 0 < length zs → from < n
      above [] is none = absurd (omega (arith, none))
      above (z ∷ zs) is some =
          let there : list_any (nat_eq z) all ≡ true = ap (list_any (nat_eq z)) is ∙ any_mid z [] zs in
          let parts = (found_in z there).1 in
          let first = parts.0 in
          let second : nat_lt z n ≡ true = sym (ap (λ o. comes_before o z) same) ∙ parts.1 in
          grind (arith, nat_tests, first, second)

-- .. if there is one, and so many came before it
pub next_of_all : (from : ℕ) (next : Option ℕ) (all : List ℕ) (is_known : ℕ → Bool) (shown : (k : ℕ) → list_any (nat_eq k) all ≡ (is_known k && is_between from next k)) (limit : ℕ) → 0 < limit
    → IfSome next (λ g. (limit ≤ length all) × (is_known g ≡ true)) → IfSome next (λ g. (from < g) × (is_known g ≡ true))
next_of_all from None all is_known shown limit more some = tt
next_of_all from (Some n) all is_known shown limit more some =
    let long = some.0 in
    (last_above from (Some n) all is_known shown n refl (omega (arith, long, more)), some.1)

pub some_before : (next : Option ℕ) (all : List ℕ) (P : ℕ → Type 0) (limit : ℕ) → 0 < limit → IfSome next (λ g. (limit ≤ length all) × P g) → IfSome next (λ g. 0 < length all)
some_before None all P limit more some = tt
some_before (Some n) all P limit more some = let long = some.0 in omega (arith, long, more)

-- What groups cost, each at least 64.

module _ (cost : ℕ → ℕ) (least : (k : ℕ) → 64 ≤ cost k) where
  long_cost : (xs : List ℕ) → 64 * length xs ≤ sum_by cost xs
  long_cost [] = omega arith
  long_cost (x ∷ xs) =
      let first = least x in
      let rest = long_cost xs in
      let is = sum_by-cons cost x xs in
      omega (arith, first, rest, is)

  one_left : (xs : List ℕ) → sum_by cost (drop 1 xs) ≡ 0 → length xs ≤ 1
  one_left [] none = omega arith
  one_left (x ∷ []) none = omega arith
  one_left (x ∷ y ∷ xs) none =
      let long = long_cost (y ∷ xs) in
      absurd (omega (arith, long, none))

  pub within_of : (xs : List ℕ) (left budget : ℕ) → (sum_by cost xs + left ≡ budget) ⊎ ((left ≡ 0) × (sum_by cost (drop 1 xs) ≡ 0) × (budget < sum_by cost xs)) → (sum_by cost xs ≤ budget) ⊎ (length xs ≤ 1)
  within_of xs left budget (inl is) = inl (omega (arith, is))
  within_of xs left budget (inr (none, rest, more)) = inr (one_left xs rest)

  -- the budget doesn't suffice for one more
  pub full_of : (xs : List ℕ) (left budget g : ℕ) → (sum_by cost xs + left ≡ budget) ⊎ ((left ≡ 0) × (sum_by cost (drop 1 xs) ≡ 0) × (budget < sum_by cost xs)) → left < cost g → budget < sum_by cost xs + cost g
  full_of xs left budget g (inl is) less = omega (arith, is, less)
  full_of xs left budget g (inr (none, rest, more)) less = omega (arith, more)

  -- nor where so many were looked at
  full_at : (xs : List ℕ) (limit budget g : ℕ) → budget < 64 * limit → limit ≤ length xs → budget < sum_by cost xs + cost g
  full_at xs limit budget g most long =
      let all = long_cost xs in
      omega (arith, most, long, all)

  pub full_before : (next : Option ℕ) (xs : List ℕ) (P : ℕ → Type 0) (limit budget : ℕ) → budget < 64 * limit → IfSome next (λ g. (limit ≤ length xs) × P g) → IfSome next (λ g. budget < sum_by cost xs + cost g)
  full_before None xs P limit budget most some = tt
  full_before (Some n) xs P limit budget most some = full_at xs limit budget n most some.0

pub spent : (left cost : ℕ) → left_of left cost ≡ None → left < cost
spent left cost is = elim (cases_Bool (nat_le cost left)) [
  | inl enough ↦ absurd (let clash : None ≡ Some (left - cost) = sym is ∙ ap (λ b. if b then Some (left - cost) else None) enough in cc)
  | inr more ↦ grind (arith, nat_tests, more)
]
