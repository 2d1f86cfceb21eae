-- What stands at a path after a change, and what a crash leaves of it.
use Rattle.std.proofs.lemmas.List.{nil_from_length}
use Rattle.raft_env.proofs.OutcomesOverlayLemmas.{overlaid_bounds, overlaid_outside_part}
use Rattle.std.proofs.Common.{◌≡◌, ◌≢◌, ℕ, ◌<◌, true, false, cond, Option, Some, None, refl, ◌∙◌, ap, arith, ◌≤◌, List, length}
use Rattle.std.specs.Ordering.{nat_cmp, eq_by_cmp}
use Rattle.std.specs.Cmp.Lexicographic.{slice_cmp, nat_list_cmp_total}
use Rattle.std.specs.FinMap as map
use Rattle.std.proofs.lemmas.Map.Text.{is_eq-slice_cmp}
use Rattle.std.proofs.lemmas.Slice.Eq.{bytes_eq-Decides}
use Rattle.std.proofs.lemmas.Bool.{false_from_ne_true}
use Rattle.std.proofs.lemmas.Bool.Decides.{nat_tests}
use Rattle.raft_env.specs.Outcomes.{File, is_within, IsPartOf, overlay, renamed_of}
use Rattle.raft_env.specs.Directory.{Path, Directory, file_at, with_file, without_file, after_rename, after_rename_at, IsMakingFolder}

pub same_path : (p : Path) → eq_by_cmp (slice_cmp nat_cmp) p p ≡ true
same_path p = is_eq-slice_cmp p p ∙ (bytes_eq-Decides p p).1 refl

pub other_path : (p q : Path) → p ≢ q → eq_by_cmp (slice_cmp nat_cmp) p q ≡ false
other_path p q apart = is_eq-slice_cmp p q ∙ false_from_ne_true _ (λ e. apart ((bytes_eq-Decides p q).0 e))

pub file_at-placed_same : (path : Path) (file : File) (n : Directory) → file_at (with_file path file n) path ≡ Some file
file_at-placed_same path file n = map.get-insert nat_list_cmp_total n.files path file path ∙ ap (λ b. cond b (Some file) (file_at n path)) (same_path path)

pub file_at-placed_other : (path : Path) (file : File) (n : Directory) (q : Path) → q ≢ path → file_at (with_file path file n) q ≡ file_at n q
file_at-placed_other path file n q apart = map.get-insert nat_list_cmp_total n.files path file q ∙ ap (λ b. cond b (Some file) (file_at n q)) (other_path q path apart)

pub outside : (at len i : ℕ) → i < at → is_within at len i ≡ false
outside at len i h = grind (arith, nat_tests)

-- a write of a part of its bytes leaves others in its range alone
pub writing_part : (at : ℕ) (given kept : List ℕ) → length kept ≤ length given → (now : List ℕ) → IsPartOf at (length given) now (overlay now at kept)
writing_part at given kept part now = record {
  no_shorter = (overlaid_bounds now at kept).0;
  no_longer = omega (arith, (overlaid_bounds now at kept).1);
  unchanged = λ none. ap (overlay now at) (nil_from_length kept (omega arith));
  elsewhere = λ i h out. overlaid_outside_part now at (length given) kept part i out;
}

-- the files stay where a folder is made
pub file_at-making : (dir path : Path) (old new : Directory) → IsMakingFolder dir old new → file_at new path ≡ file_at old path
file_at-making dir path old new making = ap (λ files. map.get files path) making.files

-- Deleted and renamed files.

pub file_at-removed_same : (path : Path) (n : Directory) → file_at (without_file path n) path ≡ None
file_at-removed_same path n = map.get-remove nat_list_cmp_total n.files path path ∙ ap (λ b. cond b None (file_at n path)) (same_path path)

pub file_at-removed_other : (path other : Path) (n : Directory) → other ≢ path → file_at (without_file path n) other ≡ file_at n other
file_at-removed_other path other n apart = map.get-remove nat_list_cmp_total n.files path other ∙ ap (λ b. cond b None (file_at n other)) (other_path other path apart)

pub file_at-renamed_to : (src dst : Path) (n : Directory) (file : File) → file_at n src ≡ Some file → file_at (after_rename src dst n) dst ≡ Some (renamed_of file)
file_at-renamed_to src dst n file stands = ap (λ o. file_at (after_rename_at src dst o n) dst) stands ∙ file_at-placed_same dst (renamed_of file) (without_file src n)

pub file_at-renamed_from : (src dst : Path) (n : Directory) → src ≢ dst → file_at (after_rename src dst n) src ≡ None
file_at-renamed_from src dst n apart = by_file (file_at n src) refl
  where
    by_file : (found : Option File) → file_at n src ≡ found → file_at (after_rename_at src dst found n) src ≡ None
    by_file None stands = stands
    by_file (Some file) stands = file_at-placed_other dst (renamed_of file) (without_file src n) src apart ∙ file_at-removed_same src n

pub file_at-renamed_other : (src dst other : Path) (n : Directory) → other ≢ src → other ≢ dst → file_at (after_rename src dst n) other ≡ file_at n other
file_at-renamed_other src dst other n no_source no_target = by_file (file_at n src)
  where
    by_file : (found : Option File) → file_at (after_rename_at src dst found n) other ≡ file_at n other
    by_file None = refl
    by_file (Some file) = file_at-placed_other dst (renamed_of file) (without_file src n) other no_target ∙ file_at-removed_other src other n no_source
