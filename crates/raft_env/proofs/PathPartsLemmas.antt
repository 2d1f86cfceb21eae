-- What stands below a folder, and the folder of a path.
use Rattle.std.proofs.Common.{◌≡◌, ◌≢◌, ℕ, Bool, true, false, cond, eqb, [], ◌∷◌, ◌++◌, take, drop, take-append-drop, lit<, Option, Some, None, refl, sym, ◌∙◌, ap, inl, inr}
use Rattle.std.specs.Option.{MatchOption}
use Rattle.std.specs.Str.{NoCharPasses}
use Rattle.std.specs.Str.Pattern.{HasCharAt}
use denote.Ref.{Bor}
use Rattle.std.proofs.lemmas.Bool.{eq-eqb, eqb-true}
use Rattle.std.proofs.lemmas.Str.Pattern.{NoCharPasses-char, drop_at_char}
use Rattle.std.proofs.lemmas.List.Elements.{All-from_get_or}
use Rattle.std.proofs.lemmas.List.{append_cancel_left}
use Rattle.raft_env.specs.Directory.{Path, after_folder}
use Rattle.raft_env.specs.PathParts.{IsName, IsParent}

pub after_folder-below : (folder rest : Path) → after_folder folder (folder ++ 47 ∷ rest) ≡ Some rest
after_folder-below [] rest = refl
after_folder-below (c ∷ folder) rest = ap (λ b. cond b (after_folder folder (folder ++ 47 ∷ rest)) None) (eq-eqb c c refl) ∙ after_folder-below folder rest

-- a slash, or the same byte, was found
head_is : (b : Bool) (o : Option Path) (rest : Path) → cond b o None ≡ Some rest → (b ≡ true) × (o ≡ Some rest)
head_is true o rest is = (refl, is)
head_is false o rest is = absurd cc

pub after_folder_tells : (folder path rest : Path) → after_folder folder path ≡ Some rest → path ≡ folder ++ 47 ∷ rest
after_folder_tells [] [] rest is = absurd cc
after_folder_tells [] (x ∷ path) rest is =
    let found = head_is (eqb x 47) (Some path) rest is in
    let slash : x ≡ 47 = eqb-true x 47 found.0 in
    let same : Some path ≡ Some rest = found.1 in
    cc
after_folder_tells (c ∷ folder) [] rest is = absurd cc
after_folder_tells (c ∷ folder) (x ∷ path) rest is =
    let found = head_is (eqb c x) (after_folder folder path) rest is in
    let first : c ≡ x = eqb-true c x found.0 in
    let behind : path ≡ folder ++ 47 ∷ rest = after_folder_tells folder path rest found.1 in
    cc

pub none_after : (folder path : Path) → ((rest : Path) → path ≢ folder ++ 47 ∷ rest) → after_folder folder path ≡ None
none_after folder path lacks = at_answer (after_folder folder path) refl
  where
    at_answer : (o : Option Path) → after_folder folder path ≡ o → after_folder folder path ≡ None
    at_answer None e = e
    at_answer (Some rest) e = absurd (lacks rest (after_folder_tells folder path rest e))

pub after_folder_answer : (folder path rest : Path) (r : Option (Bor Path)) → path ≡ folder ++ rest → MatchOption r ((behind : Path) → rest ≢ 47 ∷ behind) (λ x. rest ≡ 47 ∷ x.now)
    → MatchOption r (after_folder folder path ≡ None) (λ x. after_folder folder path ≡ Some x.now)
after_folder_answer folder path rest None is tells = none_after folder path (λ behind e. tells behind (append_cancel_left folder _ _ (sym is ∙ e)))
after_folder_answer folder path rest (Some x) is tells = ap (after_folder folder) (is ∙ ap (λ (l : Path). folder ++ l) tells) ∙ after_folder-below folder x.now

no_slash : (path : Path) → NoCharPasses (λ d. eqb d 47) path → IsName path
no_slash path none = All-from_get_or (λ c. c ≢ 47) path 0 (λ i within. NoCharPasses-char 47 path i none (lit< tt) within)

-- a path without a slash stands in the root
pub parent_root : (path : Path) → NoCharPasses (λ d. eqb d 47) path → IsParent path []
parent_root path none = inl (no_slash path none, refl)

-- what stands before the last slash that was found
pub parent_before : (path folder : Path) (i j : ℕ) → NoCharPasses (λ d. eqb d 47) (drop j path) → HasCharAt 47 path i j → folder ≡ take i path → IsParent path folder
parent_before path folder i j none slash is =
    inr (
      drop j path,
      no_slash (drop j path) none,
      sym (take-append-drop i path) ∙ ap (λ (l : Path). take i path ++ l) (drop_at_char 47 path i j slash (lit< tt)) ∙ ap (λ (l : Path). l ++ 47 ∷ drop j path) (sym is),
    )
