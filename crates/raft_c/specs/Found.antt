-- What was found in a folder.
use Rattle.std.specs.Prelude.{◌≡◌, ◌⊎◌, ℕ, List, [], ◌∷◌, ◌++◌, map, ℤ, pos}
use Rattle.std.specs.Str.{IsUtf8}
use Rattle.std.specs.String.{string_bytes}
use Rattle.raft_memory.specs.Settled.{PathAndBytes}
use Rattle.raft_c.specs.declared.loading.Found.{Found}
use Rattle.raft_c.specs.declared.loading.Found.TheVariants.{File, Folder}
use Rattle.raft_c.specs.declared.loading.Loading.{Loading}

-- the paths of files and their bytes
abbrev pub listed : List PathAndBytes → List (List ℕ × List ℕ)
listed files = map (λ f. (string_bytes f.0, f.1.items)) files

-- what was found at the path is added after what was found before
abbrev pub IsFoundMore : List ℕ → Found → Loading → Loading → Type 0
IsFoundMore path (File bytes) old new =
    (listed new.files.items ≡ listed old.files.items ++ (path, bytes.now) ∷ [])
    × (new.folders ≡ old.folders)
IsFoundMore path Folder old new = (new.files ≡ old.files)
    × (map string_bytes new.folders.items ≡ map string_bytes old.folders.items ++ path ∷ [])

-- nothing was added
abbrev pub IsFoundAsBefore : Loading → Loading → Type 0
IsFoundAsBefore old new =
    (new.files.items ≡ old.files.items) × (new.folders.items ≡ old.folders.items)

-- with this code it was added; or nothing changed, since the path is no text or memory ran out
pub record IsFoundBy (path : List ℕ) (found : Found) (code : ℤ) (old new : Loading) : Type 0 where
  pub ok : code ≡ pos 0 → IsUtf8 path × IsFoundMore path found old new
  pub err : (code ≡ pos 0 → ⊥) → IsFoundAsBefore old new
      × (((code ≡ pos 1) × (IsUtf8 path → ⊥)) ⊎ ((code ≡ pos 12) × IsUtf8 path))
