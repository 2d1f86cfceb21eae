-- Which files of a queue an opening passes over.
use Rattle.std.specs.Prelude.{◌≡◌, ℕ, suc, ◌<◌, ◌≤◌, ◌==◌, List, [], ◌∷◌, map, slice_index}
use Rattle.std.specs.List.{AllByRecursion, filter}
use Rattle.raft_env.specs.Directory.{Path}
use Rattle.raft_pipes.specs.Numbered.{end_of_numbers}

-- the files are in the order of their numbers
abbrev pub AreByNumber : List (ℕ × Path) → Type 0
AreByNumber [] = Unit {0}
AreByNumber (f ∷ files) = AllByRecursion (λ g. f.0 ≤ g.0) files × AreByNumber files

-- the paths of those of these files that have this number
abbrev pub paths_with : ℕ → List (ℕ × Path) → List Path
paths_with seq files = map (λ f. f.1) (filter (λ f. f.0 == seq) files)

-- these are all files of a queue, by number; `here` has the paths for each number
pub record AreAllOf (here : ℕ → List Path) (files : List (ℕ × Path)) : Type 0 where
  pub order : AreByNumber files
  pub within : AllByRecursion (λ f. f.0 < end_of_numbers) files
  pub are : (seq : ℕ) → seq < end_of_numbers → here seq ≡ paths_with seq files

-- the numbers of these files
abbrev pub numbers_in : List (ℕ × Path) → List ℕ
numbers_in files = map (λ f. f.0) files

-- the file at this place has the number of the one before it
abbrev pub IsDoubledAt : List (ℕ × Path) → ℕ → Type 0
IsDoubledAt files at = (place : ℕ) × (at ≡ suc place)
    × (slice_index (numbers_in files) at ≡ slice_index (numbers_in files) place)
