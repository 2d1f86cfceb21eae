-- The first numbers of a list, and those that are still to be looked at.
use Rattle.std.proofs.Common.{◌≡◌, ◌∙◌, ◌++◌, ◌+◌, ◌<◌, ◌≤◌, ◌⊎◌, ℕ, Bool, true, false, cond, List, [], ◌∷◌, ◌&&◌, Option, None, Some, inl, inr, refl, sym, ap, subst, arith, drop, length, slice_index_or, take}
use Rattle.std.specs.Prelude.{◌||◌, ◌==◌, nat_eq, nat_le, nat_lt}
use Rattle.std.specs.Cmp.{nat_eq_equiv}
use Rattle.std.specs.List.{AllByRecursion as Each, IsDistinct, list_any}
use Rattle.std.specs.List.Sorted.{IsPermutation, IsSorted, IsStrictlySortedBy}
use Rattle.std.specs.Option.{IfSome}
use Rattle.std.specs.Ordering.{nat_cmp}
use Rattle.std.specs.declared.cmp.Ordering.{Ordering}
use Rattle.std.specs.declared.cmp.Ordering.TheVariants.{Equal, Greater, Less}
use Rattle.std.proofs.lemmas.Bool.{and_parts, cases_Bool}
use Rattle.std.proofs.lemmas.Bool.Decides.{nat_tests}
use Rattle.std.proofs.lemmas.List.{drop_more, length_push, take-append-drop}
use Rattle.std.proofs.lemmas.List.Sorted.{list_any-IsPermutation}
use Rattle.std.proofs.lemmas.Map.Keys.{IsDistinct-IsPermutation, IsDistinct-push}
use Rattle.raft_tables.specs.GroupsFrom.{IsFront, comes_before, is_between}
use Rattle.raft_tables.proofs.ListingLemmas.{ascending_of_sorted}

distinct_front : (xs ys : List ℕ) → IsDistinct nat_eq (xs ++ ys) → IsDistinct nat_eq xs
unfolding IsDistinct
distinct_front [] ys d = tt
distinct_front (x ∷ xs) ys d = (each_front xs d.0, distinct_front xs ys d.1)
  where
    each_front : (zs : List ℕ) → Each (λ y. nat_eq x y ≡ false) (zs ++ ys) → Each (λ y. nat_eq x y ≡ false) zs
    each_front [] each = tt
    each_front (z ∷ zs) each = (each.0, each_front zs each.1)

is_less : (b c : Bool) → ◌≡◌ {A = Ordering} (cond b Less (cond c Equal Greater)) Less → b ≡ true
is_less true c less = refl
is_less false true less = absurd (let clash = less in cc)
is_less false false less = absurd (let clash = less in cc)

below : (x y : ℕ) → nat_cmp x y ≡ Less → x < y
below x y less =
    let on : nat_lt x y ≡ true = is_less (nat_lt x y) (x == y) less in
    grind (arith, nat_tests)

each_mid : (P : ℕ → Type 0) (g : ℕ) (xs ys : List ℕ) → Each P (xs ++ g ∷ ys) → P g
each_mid P g [] ys each = each.0
each_mid P g (x ∷ xs) ys each = each_mid P g xs ys each.1

absent : (g k : ℕ) (ys : List ℕ) → Each (λ y. nat_cmp g y ≡ Less) ys → k ≤ g → list_any (nat_eq k) ys ≡ false
absent g k [] each le = refl
absent g k (y ∷ ys) each le =
    let after = below g y each.0 in
    let other : nat_eq k y ≡ false = grind (arith, nat_tests) in
    rw other (absent g k ys each.1 le)

and_false : (b : Bool) → false ≡ (b && false)
and_false true = refl
and_false false = refl

-- of ascending numbers, those before one of them
pub any_before : (k g : ℕ) (xs ys : List ℕ) → IsStrictlySortedBy nat_cmp (xs ++ g ∷ ys) → list_any (nat_eq k) xs ≡ (list_any (nat_eq k) (xs ++ g ∷ ys) && nat_lt k g)
unfolding IsStrictlySortedBy
any_before k g [] ys sorted =
    elim (cases_Bool (nat_lt k g)) [
      | inl less ↦
          let other : nat_eq k g ≡ false = grind (arith, nat_tests) in
          let le : k ≤ g = grind (arith, nat_tests) in
          rw (less, other, absent g k ys sorted.0 le) refl
      | inr more ↦ rw more (and_false (list_any (nat_eq k) (g ∷ ys)))
    ]
any_before k g (x ∷ xs) ys sorted =
    elim (cases_Bool (nat_eq k x)) [
      | inl same ↦
          let first = below x g (each_mid (λ y. nat_cmp x y ≡ Less) g xs ys sorted.0) in
          let less : nat_lt k g ≡ true = grind (arith, nat_tests) in
          rw (same, less) refl
      | inr other ↦ rw other (any_before k g xs ys sorted.1)
    ]

or_true : (b : Bool) → (b || true) ≡ true
or_true true = refl
or_true false = refl

pub any_mid : (g : ℕ) (xs ys : List ℕ) → list_any (nat_eq g) (xs ++ g ∷ ys) ≡ true
any_mid g [] ys =
    let same : nat_eq g g ≡ true = grind (arith, nat_tests) in
    rw same refl
any_mid g (x ∷ xs) ys = ap (λ b. nat_eq g x || b) (any_mid g xs ys) ∙ or_true (nat_eq g x)

-- the first ones of a list, once it is sorted
pub front_of_sorted : (olds all : List ℕ) (limit : ℕ) → IsPermutation olds all → IsDistinct nat_eq olds → IsSorted nat_cmp all → limit < length all → (mid : ℕ) → mid ≡ slice_index_or all limit mid → IsFront olds (take limit all) mid
front_of_sorted olds all limit moved d sorted less mid is =
    let front = take limit all in
    let back = drop (limit + 1) all in
    let whole : front ++ mid ∷ back ≡ all = ap (λ (n : ℕ). front ++ n ∷ back) is ∙ ap (λ (xs : List ℕ). front ++ xs) (sym (drop_more all limit mid less)) ∙ take-append-drop limit all in
    let up = subst (IsStrictlySortedBy nat_cmp) (sym whole) (ascending_of_sorted olds all moved d sorted) in
    let apart = subst (IsDistinct nat_eq) (sym whole) (IsDistinct-IsPermutation nat_eq nat_eq_equiv.symm olds all moved d) in
    let same : (g : ℕ) → list_any (nat_eq g) olds ≡ list_any (nat_eq g) (front ++ mid ∷ back) = λ g. list_any-IsPermutation (nat_eq g) olds all moved ∙ ap (list_any (nat_eq g)) (sym whole) in
    record {
      has = same mid ∙ any_mid mid front back;
      distinct = distinct_front front (mid ∷ back) apart;
      any = λ g. any_before g mid front back up ∙ ap (λ b. b && nat_lt g mid) (sym (same g));
    }

-- found numbers, and those that are still to be looked at, are all that are to be taken
pub record AreFound (from : ℕ) (next : Option ℕ) (all found rest : List ℕ) : Type 0 where
  pub any : (g : ℕ) → (list_any (nat_eq g) found || (list_any (nat_eq g) rest && is_between from next g)) ≡ (list_any (nat_eq g) all && is_between from next g)
  pub distinct : IsDistinct nat_eq found
  pub apart : (g : ℕ) → list_any (nat_eq g) found ≡ true → list_any (nat_eq g) rest ≡ false
  pub others : IsDistinct nat_eq rest

pub none_found : (from : ℕ) (next : Option ℕ) (all : List ℕ) → IsDistinct nat_eq all → AreFound from next all [] all
unfolding IsDistinct
none_found from next all d = record {
  any = λ g. refl;
  distinct = tt;
  apart = λ g clash. absurd cc;
  others = d;
}

tail_of : (g : ℕ) (rest : List ℕ) → IsDistinct nat_eq (g ∷ rest) → IsDistinct nat_eq rest
unfolding IsDistinct
tail_of g rest d = d.1

absent_head : (g : ℕ) (rest : List ℕ) → IsDistinct nat_eq (g ∷ rest) → (k : ℕ) → nat_eq k g ≡ true → list_any (nat_eq k) rest ≡ false
unfolding IsDistinct
absent_head g rest d k same = none rest d.0
  where
    none : (zs : List ℕ) → Each (λ y. nat_eq g y ≡ false) zs → list_any (nat_eq k) zs ≡ false
    none [] each = refl
    none (z ∷ zs) each =
        let apart = each.0 in
        let other : nat_eq k z ≡ false = grind (arith, nat_tests) in
        rw other (none zs each.1)

or_left : (b c : Bool) → b ≡ true → (b || c) ≡ true
or_left b c is = rw is refl

or_false_right : (b c : Bool) → (b || c) ≡ false → c ≡ false
or_false_right true c clash = absurd cc
or_false_right false c is = is

same_between : (from : ℕ) (next : Option ℕ) (g k : ℕ) → nat_eq k g ≡ true → is_between from next k ≡ is_between from next g
same_between from next g k same =
    let is : k ≡ g = grind (arith, nat_tests) in
    ap (is_between from next) is

passing : (f r b t a : Bool) → (b ≡ true → t ≡ false) → (f || ((b || r) && t)) ≡ a → (f || (r && t)) ≡ a
passing f r false t a not is = is
passing f true true t a not is = is
passing f false true t a not is = ap (λ x. f || x) (sym (not refl)) ∙ is

-- a number that isn't to be taken is passed over
pub passed_over : (from : ℕ) (next : Option ℕ) (all found : List ℕ) (g : ℕ) (rest : List ℕ) → is_between from next g ≡ false → AreFound from next all found (g ∷ rest) → AreFound from next all found rest
passed_over from next all found g rest not was = record {
  any = λ k. passing (list_any (nat_eq k) found) (list_any (nat_eq k) rest) (nat_eq k g) (is_between from next k) _ (λ same. same_between from next g k same ∙ not) (was.any k);
  distinct = was.distinct;
  apart = λ k in_found. or_false_right (nat_eq k g) (list_any (nat_eq k) rest) (was.apart k in_found);
  others = tail_of g rest was.others;
}

any_push : (k g : ℕ) (found : List ℕ) → list_any (nat_eq k) (found ++ g ∷ []) ≡ (list_any (nat_eq k) found || nat_eq k g)
any_push k g [] = or_none (nat_eq k g)
  where
    or_none : (b : Bool) → (b || false) ≡ b
    or_none true = refl
    or_none false = refl
any_push k g (x ∷ found) = ap (λ b. nat_eq k x || b) (any_push k g found) ∙ regroup (nat_eq k x) (list_any (nat_eq k) found) (nat_eq k g)
  where
    regroup : (b c d : Bool) → (b || (c || d)) ≡ ((b || c) || d)
    regroup true c d = refl
    regroup false c d = refl

taking : (f r b t a : Bool) → (b ≡ true → t ≡ true) → (f || ((b || r) && t)) ≡ a → ((f || b) || (r && t)) ≡ a
taking true r b t a on is = is
taking false r false t a on is = is
taking false r true t a on is = sym (on refl) ∙ is

in_either : (f b : Bool) → (f || b) ≡ true → f ≡ false → b ≡ true
in_either false b is not = is
in_either true b is not = absurd cc

-- a number that is to be taken is pushed
pub pushed : (from : ℕ) (next : Option ℕ) (all found : List ℕ) (g : ℕ) (rest : List ℕ) → is_between from next g ≡ true → AreFound from next all found (g ∷ rest) → AreFound from next all (found ++ g ∷ []) rest
pushed from next all found g rest on was = record {
  any = λ k. ap (λ b. b || (list_any (nat_eq k) rest && is_between from next k)) (any_push k g found)
      ∙ taking (list_any (nat_eq k) found) (list_any (nat_eq k) rest) (nat_eq k g) (is_between from next k) _ (λ same. same_between from next g k same ∙ on) (was.any k);
  distinct = IsDistinct-push nat_eq_equiv found g was.distinct (not_in (cases_Bool (list_any (nat_eq g) found)));
  apart = λ k either.
      elim (cases_Bool (list_any (nat_eq k) found)) [
        | inl in_found ↦ or_false_right (nat_eq k g) (list_any (nat_eq k) rest) (was.apart k in_found)
        | inr not ↦ absent_head g rest was.others k (in_either (list_any (nat_eq k) found) (nat_eq k g) (sym (any_push k g found) ∙ either) not)
      ];
  others = tail_of g rest was.others;
}
  where
    itself : nat_eq g g ≡ true
    itself = grind (arith, nat_tests)

    not_in : (list_any (nat_eq g) found ≡ true) ⊎ (list_any (nat_eq g) found ≡ false) → list_any (nat_eq g) found ≡ false
    not_in (inl there) = absurd (let clash = sym (or_left (nat_eq g g) (list_any (nat_eq g) rest) itself) ∙ was.apart g there in cc)
    not_in (inr not) = not

pub less_before : (next : Option ℕ) (mid k : ℕ) → comes_before next mid ≡ true → nat_lt k mid ≡ true → comes_before next k ≡ true
less_before None mid k on less = refl
less_before (Some n) mid k on less = grind (arith, nat_tests)

cutting : (f r a l b c : Bool) → (c ≡ true → b ≡ true) → (f || (r && (l && b))) ≡ (a && (l && b)) → ((f && c) || (r && (l && c))) ≡ (a && (l && c))
cutting f r a l b true on is = ap (λ x. (f && true) || (r && (l && x))) (sym (on refl)) ∙ ap (λ x. x || (r && (l && b))) (and_true f) ∙ is ∙ ap (λ x. a && (l && x)) (on refl)
  where
    and_true : (x : Bool) → (x && true) ≡ x
    and_true true = refl
    and_true false = refl
cutting f r a l b false on is = sym (none f r l) ∙ none_of a l
  where
    none : (x y z : Bool) → false ≡ ((x && false) || (y && (z && false)))
    none true true true = refl
    none true true false = refl
    none true false z = refl
    none false true true = refl
    none false true false = refl
    none false false z = refl

    none_of : (x z : Bool) → false ≡ (x && (z && false))
    none_of true true = refl
    none_of true false = refl
    none_of false z = refl

and_left : (b c : Bool) → (b && c) ≡ true → b ≡ true
and_left b c is = (and_parts b c is).0

-- what was found is one of all, and is to be taken
pub taken_mid : (from : ℕ) (next : Option ℕ) (all found rest : List ℕ) (mid : ℕ) → list_any (nat_eq mid) found ≡ true → AreFound from next all found rest
    → (list_any (nat_eq mid) all ≡ true) × ((nat_le from mid ≡ true) × (comes_before next mid ≡ true))
taken_mid from next all found rest mid has was =
    let is : (list_any (nat_eq mid) all && is_between from next mid) ≡ true = sym (was.any mid) ∙ or_left (list_any (nat_eq mid) found) _ has in
    let parts = and_parts (list_any (nat_eq mid) all) (is_between from next mid) is in
    (parts.0, and_parts (nat_le from mid) (comes_before next mid) parts.1)

-- the numbers from one of those that were found on are left out
pub cut_front : (from : ℕ) (next : Option ℕ) (all found front rest : List ℕ) (mid : ℕ) → IsFront found front mid → AreFound from next all found rest → AreFound from (Some mid) all front rest
cut_front from next all found front rest mid split was = record {
  any = λ k. ap (λ b. b || (list_any (nat_eq k) rest && is_between from (Some mid) k)) (split.any k)
      ∙ cutting (list_any (nat_eq k) found) (list_any (nat_eq k) rest) (list_any (nat_eq k) all) (nat_le from k) (comes_before next k) (nat_lt k mid) (less_before next mid k (taken_mid from next all found rest mid split.has was).1.1) (was.any k);
  distinct = split.distinct;
  apart = λ k in_front. was.apart k (and_left (list_any (nat_eq k) found) (nat_lt k mid) (sym (split.any k) ∙ in_front));
  others = was.others;
}

-- all are found once none is left
pub all_found : (from : ℕ) (next : Option ℕ) (all found : List ℕ) → AreFound from next all found [] → (g : ℕ) → list_any (nat_eq g) found ≡ (list_any (nat_eq g) all && is_between from next g)
all_found from next all found was g = or_none (list_any (nat_eq g) found) ∙ was.any g
  where
    or_none : (b : Bool) → b ≡ (b || false)
    or_none true = refl
    or_none false = refl

-- after a cut, or without one
pub found_next : (from limit : ℕ) (next next' : Option ℕ) (all found front rest : List ℕ) → AreFound from next all found rest → IfSome next (λ g. (limit ≤ length found) × (list_any (nat_eq g) all ≡ true))
    → ((next' ≡ next) × (front ≡ found)) ⊎ ((mid : ℕ) × (next' ≡ Some mid) × (limit ≤ length front) × IsFront found front mid)
    → AreFound from next' all front rest × IfSome next' (λ g. (limit ≤ length front) × (list_any (nat_eq g) all ≡ true))
found_next from limit next next' all found front rest was some (inl (same, as_before)) =
    rw (same, as_before) (was, some)
found_next from limit next next' all found front rest was some (inr (mid, is, long, split)) =
    rw is (cut_front from next all found front rest mid split was, (long, (taken_mid from next all found rest mid split.has was).0))

-- with one more found
pub longer : (limit g : ℕ) (next : Option ℕ) (P : ℕ → Type 0) (found : List ℕ) → IfSome next (λ k. (limit ≤ length found) × P k) → IfSome next (λ k. (limit ≤ length (found ++ g ∷ [])) × P k)
longer limit g None P found some = tt
longer limit g (Some k) P found some = (more found some.0, some.1)
  where
    more : {n : ℕ} (xs : List ℕ) → n ≤ length xs → n ≤ length (xs ++ g ∷ [])
    more xs le = let long = length_push xs g in omega (arith, le, long)
