-- The names in a folder.
use Rattle.std.proofs.Common.{◌≡◌, ◌⊎◌, zero, suc, inl, inr, Bool, true, false, cond, List, [], ◌∷◌, Option, Some, None, refl, sym, ◌∙◌, ap, subst, arith}
use Rattle.std.specs.Prelude.{is_some}
use Rattle.std.specs.List.{Contains, filter_map}
use Rattle.std.specs.Map.{lookup}
use Rattle.std.specs.Ordering.{nat_cmp, eq_by_cmp}
use Rattle.std.specs.Cmp.{eq_by_cmp_equiv}
use Rattle.std.specs.Cmp.Lexicographic.{slice_cmp, nat_list_cmp_total}
use Rattle.std.specs.FinMap as finite
use Rattle.std.proofs.lemmas.Map.Text.{is_eq-slice_cmp}
use Rattle.std.proofs.lemmas.Map.Views.{Contains-keys_from_lookup, IsSome-lookup_from_Contains}
use Rattle.std.proofs.lemmas.Option.{same_Some}
use Rattle.std.proofs.lemmas.Slice.Eq.{bytes_eq-Decides}
use Rattle.raft_env.specs.Outcomes.{File}
use Rattle.raft_env.specs.Directory.{Path, Directory, HasFile, is_name, kept_name, name_in, names_in, path_below, path_in}
use Rattle.raft_env.proofs.PathPartsLemmas.{after_folder-below, after_folder_tells}

-- What a list has.

has_later : {X : Type 0} (y x : X) (xs : List X) → Contains xs x → Contains (y ∷ xs) x
has_later y x xs has = (suc has.0, omega (arith, has.1), has.2)

-- the first, or one of the others
has_cases : {X : Type 0} (y x : X) (xs : List X) → Contains (y ∷ xs) x → (y ≡ x) ⊎ Contains xs x
has_cases y x xs (zero, within, is) = inl is
has_cases y x xs (suc k, within, is) = inr (k, omega (arith, within), is)

module _ {X Y : Type 0} (h : X → Option Y) (y : Y) where
  kept_first : (x : X) (xs : List X) → h x ≡ Some y → Contains (filter_map h (x ∷ xs)) y
  kept_first x xs is = rw is (0, omega arith, refl)

  kept_later : (x : X) (xs : List X) (o : Option Y) → h x ≡ o → Contains (filter_map h xs) y → Contains (filter_map h (x ∷ xs)) y
  kept_later x xs None is has = rw is has
  kept_later x xs (Some z) is has = rw is (has_later z y (filter_map h xs) has)

  filter_map-has : (xs : List X) (x : X) → Contains xs x → h x ≡ Some y → Contains (filter_map h xs) y
  filter_map-has [] x has is = absurd (omega (arith, has.1))
  filter_map-has (first ∷ xs) x has is = elim (has_cases first x xs has) [
    | inl same ↦ kept_first first xs (ap h same ∙ is)
    | inr later ↦ kept_later first xs (h first) refl (filter_map-has xs x later is)
  ]

  abbrev Given : List X → Type 0
  Given xs = (x : X) × Contains xs x × (h x ≡ Some y)

  given_first : (first : X) (xs : List X) (o : Option Y) → h first ≡ o → (Contains (filter_map h xs) y → Given xs) → Contains (filter_map h (first ∷ xs)) y → Given (first ∷ xs)
  given_first first xs None is rest has = let later = rest (rw is at has) in (later.0, has_later first later.0 xs later.1, later.2)
  given_first first xs (Some z) is rest has = elim (has_cases z y (filter_map h xs) (rw is at has)) [
    | inl same ↦ (first, (0, omega arith, refl), is ∙ ap Some same)
    | inr more ↦ let later = rest more in (later.0, has_later first later.0 xs later.1, later.2)
  ]

  filter_map-tells : (xs : List X) → Contains (filter_map h xs) y → Given xs
  filter_map-tells [] has = absurd (omega (arith, has.1))
  filter_map-tells (first ∷ xs) has = given_first first xs (h first) refl (filter_map-tells xs) has

-- The keys of a directory.

exact : (p q : Path) → eq_by_cmp (slice_cmp nat_cmp) p q ≡ true → p ≡ q
exact p q same = (bytes_eq-Decides p q).0 (sym (is_eq-slice_cmp p q) ∙ same)

find-lookup : (es : List (Path × File)) (p : Path) → finite.find (slice_cmp nat_cmp) p es ≡ lookup (eq_by_cmp (slice_cmp nat_cmp) p) es
find-lookup [] p = refl
find-lookup (e ∷ es) p = ap (λ o. cond (eq_by_cmp (slice_cmp nat_cmp) p e.0) (Some e.1) o) (find-lookup es p)

found_is : (n : Directory) (p : Path) → finite.get n.files p ≡ lookup (eq_by_cmp (slice_cmp nat_cmp) p) (finite.entries n.files)
found_is n p = finite.get-entries n.files p ∙ find-lookup (finite.entries n.files) p

keys_have : (n : Directory) (p : Path) → HasFile n p → Contains (finite.keys n.files) p
keys_have n p stands = Contains-keys_from_lookup exact p (finite.entries n.files) (sym (ap is_some (found_is n p)) ∙ stands)

keys_stand : (n : Directory) (p : Path) → Contains (finite.keys n.files) p → HasFile n p
keys_stand n p has = ap is_some (found_is n p) ∙ IsSome-lookup_from_Contains (eq_by_cmp_equiv nat_list_cmp_total) p (finite.entries n.files) has

-- The name of a path.

kept_tells : (below : Option Path) (name : Path) → kept_name below ≡ Some name → (below ≡ Some name) × (is_name name ≡ true)
kept_tells None name is = absurd cc
kept_tells (Some path) name is = by_test (is_name path) refl is
  where
    by_test : (test : Bool) → is_name path ≡ test → cond test (Some path) None ≡ Some name → (Some path ≡ Some name) × (is_name name ≡ true)
    by_test true passes e = (e, ap is_name (sym (same_Some path name e)) ∙ passes)
    by_test false fails e = absurd cc

below_tells : (folder path name : Path) → path_below folder path ≡ Some name → path ≡ path_in folder name
below_tells [] path name is = same_Some path name is
below_tells (c ∷ folder) path name is = after_folder_tells (c ∷ folder) path name is

below_is : (folder name : Path) → path_below folder (path_in folder name) ≡ Some name
below_is [] name = refl
below_is (c ∷ folder) name = after_folder-below (c ∷ folder) name

name_in-path_in : (folder name : Path) → is_name name ≡ true → name_in folder (path_in folder name) ≡ Some name
name_in-path_in folder name is = ap kept_name (below_is folder name) ∙ ap (λ b. cond b (Some name) None) is

pub names_in-tells : (folder name : Path) (n : Directory) → Contains (names_in folder n) name → (is_name name ≡ true) × HasFile n (path_in folder name)
names_in-tells folder name n has =
    let given = filter_map-tells (name_in folder) name (finite.keys n.files) has in
    let kept = kept_tells (path_below folder given.0) name given.2 in
    (kept.1, subst (HasFile n) (below_tells folder given.0 name kept.0) (keys_stand n given.0 given.1))

pub names_in-lists : (folder name : Path) (n : Directory) → (is_name name ≡ true) × HasFile n (path_in folder name) → Contains (names_in folder n) name
names_in-lists folder name n (is, stands) =
    filter_map-has (name_in folder) name (finite.keys n.files) (path_in folder name) (keys_have n (path_in folder name) stands) (name_in-path_in folder name is)
