-- No name stands twice in the list of a folder's names.
use Rattle.std.proofs.Common.{◌≡◌, ◌⊎◌, zero, suc, inl, inr, Bool, true, false, cond, List, [], ◌∷◌, ◌++◌, map, Option, Some, None, refl, ap, sym, ◌∙◌, subst, arith}
use Rattle.std.specs.Prelude.{T, ◌&&◌}
use Rattle.std.specs.List.{Contains, cons_option, filter_map}
use Rattle.std.specs.Ordering.{is_eq, is_lt, nat_cmp}
use Rattle.std.specs.Cmp.Lexicographic.{slice_cmp}
use Rattle.std.specs.FinMap as finite
use Rattle.std.specs.FinMap.Entries as sorted
use Rattle.std.specs.declared.cmp.Ordering.{Ordering}
use Rattle.std.specs.declared.cmp.Ordering.TheVariants.{Equal, Greater, Less}
use Rattle.std.proofs.lemmas.Map.Text.{is_eq-slice_cmp}
use Rattle.std.proofs.lemmas.Option.{same_Some}
use Rattle.std.proofs.lemmas.Slice.Eq.{bytes_eq-Decides}
use Rattle.raft_env.specs.Outcomes.{File}
use Rattle.raft_env.specs.Directory.{Directory, Path, is_name, kept_name, name_in, names_in, path_below, path_in}
use Rattle.raft_env.proofs.PathPartsLemmas.{after_folder_tells}
use Rattle.raft_pipes.specs.Numbered.{AreDistinct}

-- the first, or one of the others
pub has_cases : {X : Type 0} (y x : X) (xs : List X) → Contains (y ∷ xs) x → (y ≡ x) ⊎ Contains xs x
has_cases y x xs (zero, within, is) = inl is
has_cases y x xs (suc k, within, is) = inr (k, omega (arith, within), is)

pub has_later : {X : Type 0} (y x : X) (xs : List X) → Contains xs x → Contains (y ∷ xs) x
has_later y x xs has = (suc has.0, omega (arith, has.1), has.2)

-- The keys of a map differ.

both_hold : (a b : Bool) → T (a && b) → T a × T b
both_hold true b t = (tt, t)
both_hold false b t = absurd t

not_both : (r : Ordering) → T (is_lt r) → is_eq r ≡ true → ⊥
not_both Less less e = absurd cc
not_both Equal less e = absurd less
not_both Greater less e = absurd less

abbrev keys_of : List (Path × File) → List Path
keys_of es = map (λ e. e.0) es

below_apart : (path : Path) (es : List (Path × File)) → T (sorted.below_all (slice_cmp nat_cmp) path es) → Contains (keys_of es) path → ⊥
below_apart path [] below has = absurd (omega (arith, has.1))
below_apart path (e ∷ es) below has =
    let parts = both_hold (is_lt (slice_cmp nat_cmp path e.0)) (sorted.below_all (slice_cmp nat_cmp) path es) below in
    elim (has_cases e.0 path (keys_of es) has) [
      | inl same ↦ not_both (slice_cmp nat_cmp path e.0) parts.0 (is_eq-slice_cmp path e.0 ∙ (bytes_eq-Decides path e.0).1 (sym same))
      | inr later ↦ below_apart path es parts.1 later
    ]

keys_differ : (es : List (Path × File)) → T (sorted.is_sorted (slice_cmp nat_cmp) es) → AreDistinct (keys_of es)
keys_differ [] is = tt
keys_differ (e ∷ es) is =
    let parts = both_hold (sorted.below_all (slice_cmp nat_cmp) e.0 es) (sorted.is_sorted (slice_cmp nat_cmp) es) is in
    (below_apart e.0 es parts.0, keys_differ es parts.1)

-- A name in a folder tells its path.

kept_tells : (below : Option Path) (name : Path) → kept_name below ≡ Some name → below ≡ Some name
kept_tells None name is = absurd cc
kept_tells (Some path) name is = by_test (is_name path) is
  where
    by_test : (test : Bool) → cond test (Some path) None ≡ Some name → Some path ≡ Some name
    by_test true e = e
    by_test false e = absurd cc

name_in-tells : (folder path name : Path) → name_in folder path ≡ Some name → path ≡ path_in folder name
name_in-tells [] path name is = same_Some path name (kept_tells (Some path) name is)
name_in-tells (c ∷ folder) path name is = after_folder_tells (c ∷ folder) path name (kept_tells (path_below (c ∷ folder) path) name is)

module _ (folder : Path) where
  named_key : (keys : List Path) (name : Path) → Contains (filter_map (name_in folder) keys) name → Contains keys (path_in folder name)
  named_key [] name has = absurd (omega (arith, has.1))
  named_key (key ∷ keys) name has = by_name (name_in folder key) refl (named_key keys name) has
    where
      by_name : (o : Option Path) → name_in folder key ≡ o → (Contains (filter_map (name_in folder) keys) name → Contains keys (path_in folder name)) → Contains (cons_option o (filter_map (name_in folder) keys)) name → Contains (key ∷ keys) (path_in folder name)
      by_name None is others has = has_later key (path_in folder name) keys (others has)
      by_name (Some first) is others has = elim (has_cases first name (filter_map (name_in folder) keys) has) [
        | inl same ↦ (0, omega arith, name_in-tells folder key name (is ∙ ap Some same))
        | inr later ↦ has_later key (path_in folder name) keys (others later)
      ]

  names_differ : (keys : List Path) → AreDistinct keys → AreDistinct (filter_map (name_in folder) keys)
  names_differ [] distinct = tt
  names_differ (key ∷ keys) distinct = by_name (name_in folder key) refl (names_differ keys distinct.1)
    where
      by_name : (o : Option Path) → name_in folder key ≡ o → AreDistinct (filter_map (name_in folder) keys) → AreDistinct (cons_option o (filter_map (name_in folder) keys))
      by_name None is others = others
      by_name (Some name) is others = ((λ has. distinct.0 (subst (Contains keys) (sym (name_in-tells folder key name is)) (named_key keys name has))), others)

  pub names_in-AreDistinct : (n : Directory) → AreDistinct (names_in folder n)
  names_in-AreDistinct n = names_differ (finite.keys n.files) (keys_differ (finite.entries n.files) (finite.entries_sorted n.files))

pub stands_in : (front : List Path) (y : Path) (ys : List Path) → Contains (front ++ y ∷ ys) y
stands_in [] y ys = (0, omega arith, refl)
stands_in (x ∷ front) y ys = has_later x y (front ++ y ∷ ys) (stands_in front y ys)

-- what stands in a list of which no element stands twice doesn't stand before it
pub none_before : (xs : List Path) (y : Path) (ys : List Path) → AreDistinct (xs ++ y ∷ ys) → Contains xs y → ⊥
none_before [] y ys distinct has = absurd (omega (arith, has.1))
none_before (x ∷ xs) y ys distinct has = elim (has_cases x y xs has) [
  | inl same ↦ distinct.0 (subst (Contains (xs ++ y ∷ ys)) (sym same) (stands_in xs y ys))
  | inr later ↦ none_before xs y ys distinct.1 later
]
