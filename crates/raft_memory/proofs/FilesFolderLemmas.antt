-- The folders that were made.
use Rattle.std.specs.Str.{bytes_eq}
use Rattle.std.proofs.lemmas.Slice.Eq.{bytes_eq-Decides}
use Rattle.std.proofs.lemmas.List.{nil_from_length, length-append}
use Rattle.std.proofs.lemmas.Bool.{or_cases, or_right, eq-eqb, eqb-true}
use Rattle.std.proofs.Common.{◌≡◌, true, eqb, ◌||◌, List, length, ap, inl, inr, Bool, false, [], ◌∷◌, ◌++◌, Option, Some, None, refl, sym, ◌∙◌, subst, ◌⊎◌, append_assoc, arith}
use Rattle.std.specs.Prelude.{String, is_some}
use Rattle.std.specs.List.{list_any}
use Rattle.std.specs.String.{string_bytes}
use Rattle.std.specs.declared.alloc.Global.{Global}
use Rattle.raft_env.specs.Directory.{Path, is_on_way, folder_made, Directory, after_folder, IsMakingFolder}
use Rattle.raft_memory.specs.Files.{Files, folders_of, directory_of}
use Rattle.raft_env.proofs.PathPartsLemmas.{after_folder-below, after_folder_tells}

some_of : (o : Option Path) → is_some o ≡ true → (rest : Path) × (o ≡ Some rest)
some_of None is = absurd cc
some_of (Some rest) is = (rest, refl)

-- the folder is the path, or what stands before one of its slashes
is_on_way_tells : (folder path : Path) → is_on_way folder path ≡ true → (path ≡ folder) ⊎ ((rest : Path) × (path ≡ folder ++ 47 ∷ rest))
is_on_way_tells folder path is = elim (or_cases (bytes_eq folder path) (is_some (after_folder folder path)) is) [
  | inl same ↦ inl (sym ((bytes_eq-Decides folder path).0 same))
  | inr found ↦ let rest = some_of (after_folder folder path) found in inr (rest.0, after_folder_tells folder path rest.0 rest.1)
]

is_on_way_below : (folder path rest : Path) → path ≡ folder ++ 47 ∷ rest → is_on_way folder path ≡ true
is_on_way_below folder path rest is = or_right _ _ (ap (λ (p : Path). is_some (after_folder folder p)) is ∙ ap is_some (after_folder-below folder rest))

-- a folder on the way to a folder is on the way to what stands in it
is_on_way_further : (q folder path : Path) → is_on_way q folder ≡ true → is_on_way folder path ≡ true → is_on_way q path ≡ true
is_on_way_further q folder path first second = elim (is_on_way_tells folder path second) [
  | inl same ↦ subst (λ (p : Path). is_on_way q p ≡ true) (sym same) first
  | inr below ↦ elim (is_on_way_tells q folder first) [
    | inl same ↦ is_on_way_below q path below.0 (below.1 ∙ ap (λ (p : Path). p ++ 47 ∷ below.0) same)
    | inr above ↦ is_on_way_below q path (above.0 ++ 47 ∷ below.0) (below.1 ∙ ap (λ (p : Path). p ++ 47 ∷ below.0) above.1 ∙ append_assoc q (47 ∷ above.0) (47 ∷ below.0))
  ]
]

any_further : (made : List (String Global)) (q folder : Path) → is_on_way q folder ≡ true → list_any (λ p. is_on_way folder (string_bytes p)) made ≡ true → list_any (λ p. is_on_way q (string_bytes p)) made ≡ true
any_further [] q folder first found = absurd cc
any_further (p ∷ made) q folder first found = elim (or_cases (is_on_way folder (string_bytes p)) _ found) [
  | inl here ↦ ap (λ b. b || list_any (λ s. is_on_way q (string_bytes s)) made) (is_on_way_further q folder (string_bytes p) first here)
  | inr later ↦ or_right _ _ (any_further made q folder first later)
]

on_way_to_root : (q folder : Path) → folder ≡ [] → is_on_way q folder ≡ true → eqb (length q) 0 ≡ true
on_way_to_root q folder root found = elim (is_on_way_tells q folder found) [
  | inl same ↦ eq-eqb (length q) 0 (ap length (sym same ∙ root))
  | inr below ↦ absurd (omega (arith, ap length (sym below.1 ∙ root), length-append q (47 ∷ below.0)))
]

absorbs : (a b : Bool) → (a ≡ true → b ≡ true) → b ≡ (a || b)
absorbs true b implied = implied refl
absorbs false b implied = refl

-- each folder on the way to a folder is one
pub folders_of_further : (made : List (String Global)) (q folder : Path) → folders_of made folder ≡ true → is_on_way q folder ≡ true → folders_of made q ≡ true
folders_of_further made q folder stands first = elim (or_cases (eqb (length folder) 0) _ stands) [
  | inl root ↦ ap (λ b. b || list_any (λ s. is_on_way q (string_bytes s)) made) (on_way_to_root q folder (nil_from_length folder (eqb-true (length folder) 0 root)) first)
  | inr later ↦ or_right _ _ (any_further made q folder first later)
]

-- making a folder that stands changes nothing
pub folder_made_again : (files : Files) (made : List (String Global)) (folder : Path) → folders_of made folder ≡ true → directory_of files (folders_of made) ≡ folder_made folder (directory_of files (folders_of made))
folder_made_again files made folder stands =
    let same : (q : Path) → folders_of made q ≡ (is_on_way q folder || folders_of made q) = λ q. absorbs _ _ (folders_of_further made q folder stands) in
    λ i. record { files = (directory_of files (folders_of made)).files; is_folder = λ q. same q i }

-- Moments of making a folder.

-- none of them is made yet
pub making_none : (path : Path) (old new : Directory) → new ≡ old → IsMakingFolder path old new
making_none path old new same = subst (IsMakingFolder path old) (sym same) (record {
  files = refl;
  kept = λ q stands. stands;
  made = λ q stands. or_right (is_on_way q path) (old.is_folder q) stands;
})

-- all of them are made
pub making_done : (path : Path) (old new : Directory) → new ≡ folder_made path old → IsMakingFolder path old new
making_done path old new is = subst (IsMakingFolder path old) (sym is) (record {
  files = refl;
  kept = λ q stands. or_right (is_on_way q path) (old.is_folder q) stands;
  made = λ q stands. stands;
})
