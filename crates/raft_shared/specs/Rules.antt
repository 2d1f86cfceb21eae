-- The rule of the book that holds the history, and what a step of it shows.
use Rattle.std.specs.Prelude.{ℕ, ◌≡◌, ◌==◌, true, List, [], ◌∷◌, ◌++◌, length, MatchBool}
use Rattle.logbook.specs.Pages.{Cell, Step, View, Book, Named}
use Rattle.raft_shared.specs.declared.call.Recorded.{Recorded}

-- the first word is the length of the history; this rule leaves the second one of the book at 0
abbrev pub IsKept : List Cell → List Recorded → Type 0
IsKept cells log = cells ≡ (length log, true) ∷ (0, true) ∷ []

-- the first word of the book
abbrev pub head_of : Book → Named
head_of b = record { tracked = true; key = 0; book = b }

-- the call was added to all that had been seen, or the history was longer
abbrev pub Adds : Step Recorded → View Recorded ℕ → ℕ → View Recorded ℕ → Type 0
Adds s v found w = MatchBool (found == s.old) (w.0 ≡ v.0 ++ s.ask ∷ []) (length w.0 ≡ found)
