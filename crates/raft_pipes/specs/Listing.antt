-- The list of all files of a queue, and its longest end in which numbers rise by one.
use Rattle.std.specs.Prelude.{◌≡◌, ℕ, zero, suc, List, [], ◌∷◌, ◌++◌, map}
use Rattle.raft_env.specs.Directory.{Path}

-- the files with numbers below this one, by number and then by folder
unfoldable pub listing : (ℕ → List Path) → ℕ → List (ℕ × Path)
listing here zero = []
listing here (suc seq) = listing here seq ++ map (λ path. (seq, path)) (here seq)

-- the numbers rise by one
abbrev pub Rises : List (ℕ × Path) → Type 0
Rises [] = Unit {0}
Rises (f ∷ []) = Unit {0}
Rises (f ∷ g ∷ files) = (g.0 ≡ suc f.0) × Rises (g ∷ files)

-- the last of these files doesn't stand right before a number
abbrev pub EndsApart : List (ℕ × Path) → ℕ → Type 0
EndsApart [] number = Unit {0}
EndsApart (f ∷ []) number = suc f.0 ≡ number → ⊥
EndsApart (f ∷ g ∷ files) number = EndsApart (g ∷ files) number

-- no file more could be taken before these
abbrev pub BeginsApart : List (ℕ × Path) → List (ℕ × Path) → Type 0
BeginsApart others [] = others ≡ []
BeginsApart others (f ∷ files) = EndsApart others f.0

-- files are the longest end of a list in which numbers rise by one
pub record IsLongestEnd (all files : List (ℕ × Path)) : Type 0 where
  pub others : List (ℕ × Path)
  pub end : all ≡ others ++ files
  pub rises : Rises files
  pub longest : BeginsApart others files
