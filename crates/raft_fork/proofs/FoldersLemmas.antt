-- Folders that a fork leaves.
use Rattle.std.proofs.Common.{◌≡◌, ◌∙◌, Bool, true, false, cond, [], is_some, Option, Some, None, refl, ap, sym}
use Rattle.raft_env.specs.Directory.{Directory, Path, after_create, file_at, update_at, update_file, with_file}
use Rattle.raft_env.specs.Outcomes.{File, synced_file}
use Rattle.raft_pipes.specs.Folder.{HasMadeFolder}

pub folder_then : (target : Path) (old mid new : Directory) → HasMadeFolder target old mid → new.is_folder ≡ mid.is_folder → HasMadeFolder target old new
folder_then target old mid new made same =
    let at = λ (q : Path). ap (λ (f : Path → Bool). f q) same in
    record {
      made = at target ∙ made.made;
      kept = λ q there. at q ∙ made.kept q there;
      only = λ q there. made.only q (sym (at q) ∙ there);
    }

-- a change of a file changes no folder
pub updated_folders : (path : Path) (f : File → File) (old new : Directory) → new ≡ update_file path f old → new.is_folder ≡ old.is_folder
updated_folders path f old new is = ap (λ (n : Directory). n.is_folder) is ∙ by_file (file_at old path)
  where
    by_file : (found : Option File) → (update_at path f found old).is_folder ≡ old.is_folder
    by_file None = refl
    by_file (Some file) = refl

-- nor does a file that is made
pub created_folders : (path : Path) (old new : Directory) → new ≡ after_create path old → new.is_folder ≡ old.is_folder
created_folders path old new is = ap (λ (n : Directory). n.is_folder) is ∙ by_test (is_some (file_at old path))
  where
    by_test : (there : Bool) → (cond there old (with_file path (synced_file []) old)).is_folder ≡ old.is_folder
    by_test true = refl
    by_test false = refl
