use Rattle.std.specs.Prelude.{Some}
use Rattle.raft_shared.specs.Origin.{origin_of}
use Rattle.threads.proofs.main.Given as goal

-- the book that was just opened, and the engine that was just shared
abbrev pub ghosts-play : goal.ghosts-play
ghosts-play g a = record { book = a.opened.seen.book; origin = Some (origin_of a.shared) }
