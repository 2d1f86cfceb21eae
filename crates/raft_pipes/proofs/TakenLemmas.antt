-- The places of the settings' folders, and why they can't be made.
use Rattle.std.proofs.Common.{◌≡◌, ◌∙◌, true, is_some, zero, suc, ◌<◌, [], ◌∷◌, length, length-append, refl, ap, sym, subst, inl, inr, arith}
use Rattle.std.specs.Prelude.{Contains, ◌⊎◌}
use Rattle.raft_base.specs.declared.errors.Fault.{Fault}
use Rattle.raft_base.specs.declared.errors.Fault.TheVariants as fault
use Rattle.raft_env.specs.Directory.{Directory, HasFile, Path, path_in}
use Rattle.raft_env.specs.Refusal.{NoFewer, Refusals}
use Rattle.raft_files.specs.Name.{padded_number, reserved_name, reserved_suffix}
use Rattle.raft_pipes.specs.FileList.{IsFilePathIn}
use Rattle.raft_pipes.specs.Folder.{HasFileFor, IsLogPath, IsReservedPath}
use Rattle.raft_config.specs.Folders.{Folders, all_of, beside_main}
use Rattle.raft_pipes.specs.Queue.{IsMakeRefusal, IsMakeRefusalIn, LeavesAll}
use Rattle.raft_pipes.proofs.ApartLemmas.{main_among}
use Rattle.raft_pipes.proofs.FolderLemmas.{folder_apart}
use Rattle.raft_pipes.proofs.PlacesLemmas.{one_of}

-- a folder can't be made
pub make_refused : (folders : Folders) (folder : Path) (n mid : Directory) (old between new : Refusals) (e : Fault) → Contains (all_of folders) folder → LeavesAll n mid → NoFewer old between → IsMakeRefusal folder mid between new e → IsMakeRefusalIn folders n old new e
make_refused folders folder n mid old between new (fault.InvalidArgument text) among same fewer refused = (folder, among, inl (subst (λ o. is_some o ≡ true) (same folder) refused))
make_refused folders folder n mid old between new (fault.Io kind text) among same fewer refused = (omega (arith, fewer.0, refused.0), inl (folder, among, refused.1))
make_refused folders folder n mid old between new fault.Memory among same fewer refused = tt
make_refused folders folder n mid old between new _ among same fewer refused = absurd refused

-- one of two
two_cases : (first second x : Path) → Contains (first ∷ second ∷ []) x → (first ≡ x) ⊎ (second ≡ x)
two_cases first second x (zero, within, is) = inl is
two_cases first second x (suc zero, within, is) = inr is
two_cases first second x (suc (suc k), within, is) = absurd (omega (arith, within))

-- no folder has the path of a file in itself
in_folder_apart : (folder name : Path) → 0 < length name → folder ≡ path_in folder name → ⊥
in_folder_apart [] name some is = absurd (omega (arith, some, ap length is))
in_folder_apart (c ∷ folder) name some is = absurd (omega (arith, ap length is, length-append (c ∷ folder) (47 ∷ name)))

not_in_itself : (folder : Path) → IsFilePathIn folder folder → ⊥
not_in_itself folder (inl log) = folder_apart folder log.0 log.2
not_in_itself folder (inr (seq, short, is)) =
    let some : length reserved_suffix ≡ 17 = refl in
    in_folder_apart folder (reserved_name seq) (omega (arith, some, length-append (padded_number seq) reserved_suffix)) is

-- in which of the folders a file stands that has the path of one
module _ (folders : Folders) where
  file_in : (path : Path) → (IsLogPath folders path ⊎ IsReservedPath folders path) → (g : Path) × Contains (all_of folders) g × IsFilePathIn g path
  file_in path (inl (g, in_g, log)) = (g, in_g, inl log)
  file_in path (inr (seq, short, (g, in_g, is))) = (g, in_g, inr (seq, short, is))

  taken_in : (folder g : Path) (n : Directory) → Contains (all_of folders) folder → Contains (all_of folders) g → IsFilePathIn g folder → HasFileFor folders n
  taken_in folder g n among in_g (inl log) = (folder, among, inr (inl (g, in_g, log)))
  taken_in folder g n among in_g (inr (seq, short, is)) = (folder, among, inr (inr (seq, short, (g, in_g, is))))

module _ (folders : Folders) (other : Path) (is : beside_main folders.main folders.spill ≡ other ∷ []) where
  all_is : all_of folders ≡ folders.main ∷ other ∷ []
  all_is = ap (λ rest. folders.main ∷ rest) is

  pub other_among : Contains (all_of folders) other
  other_among = subst (λ all. Contains all other) (sym all_is) (1, omega arith, refl)

  -- one has the path of a file in the other
  pub other_in_main : (n : Directory) → IsFilePathIn folders.main other → HasFileFor folders n
  other_in_main n file = taken_in folders other folders.main n other_among (main_among folders) file

  pub main_in_other : (n : Directory) → IsFilePathIn other folders.main → HasFileFor folders n
  main_in_other n file = taken_in folders folders.main other n (main_among folders) other_among file

  -- neither place is taken
  pub both_free : (n : Directory) → (IsFilePathIn folders.main other → ⊥) → (IsFilePathIn other folders.main → ⊥) → (HasFile n folders.main → ⊥) → (HasFile n other → ⊥) → HasFileFor folders n → ⊥
  both_free n in_main in_other main_free other_free (folder, among, inl there) = elim (two_cases folders.main other folder (subst (λ all. Contains all folder) all_is among)) [
    | inl same ↦ main_free (subst (HasFile n) (sym same) there)
    | inr same ↦ other_free (subst (HasFile n) (sym same) there)
  ]
  both_free n in_main in_other main_free other_free (folder, among, inr taken) =
      let at = file_in folders folder taken in
      let g = at.0 in
      let file = at.2 in
      elim (two_cases folders.main other folder (subst (λ all. Contains all folder) all_is among)) [
        | inl is_main ↦ elim (two_cases folders.main other g (subst (λ all. Contains all g) all_is at.1)) [
          | inl g_main ↦ not_in_itself folder (subst (λ f. IsFilePathIn f folder) (sym g_main ∙ is_main) file)
          | inr g_other ↦ in_other (subst (λ p. IsFilePathIn other p) (sym is_main) (subst (λ f. IsFilePathIn f folder) (sym g_other) file))
        ]
        | inr is_other ↦ elim (two_cases folders.main other g (subst (λ all. Contains all g) all_is at.1)) [
          | inl g_main ↦ in_main (subst (λ p. IsFilePathIn folders.main p) (sym is_other) (subst (λ f. IsFilePathIn f folder) (sym g_main) file))
          | inr g_other ↦ not_in_itself folder (subst (λ f. IsFilePathIn f folder) (sym g_other ∙ is_other) file)
        ]
      ]

-- where there is one folder alone, its place isn't taken
pub one_free : (folders : Folders) (n : Directory) → beside_main folders.main folders.spill ≡ [] → (HasFile n folders.main → ⊥) → HasFileFor folders n → ⊥
one_free folders n is free (folder, among, taken) = by_place (one_of folders.main folder (subst (λ rest. Contains (folders.main ∷ rest) folder) is among)) taken
  where
    by_place : folders.main ≡ folder → (HasFile n folder ⊎ IsLogPath folders folder ⊎ IsReservedPath folders folder) → ⊥
    by_place same (inl there) = free (subst (HasFile n) (sym same) there)
    by_place same (inr file) =
        let at = file_in folders folder file in
        let g_is = one_of folders.main at.0 (subst (λ rest. Contains (folders.main ∷ rest) at.0) is at.1) in
        not_in_itself folder (subst (λ f. IsFilePathIn f folder) (sym g_is ∙ same) at.2)
