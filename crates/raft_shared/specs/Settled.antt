-- Seats whose receipts are the calls of a history, each once.
use Rattle.std.specs.Prelude.{◌≡◌, ℕ, suc, ◌==◌, List, [], ◌∷◌, if◌then◌else◌}
use Rattle.std.specs.List.{All}
use Rattle.raft_shared.specs.History.{Event}
use Rattle.raft_shared.specs.Shared.{receipts_of}
use Rattle.raft_shared.specs.Words.{calls_of}
use Rattle.raft_shared.specs.declared.seat.Seat.{Seat}

-- how many of the seats have this number
abbrev pub seats_with : ℕ → List Seat → ℕ
seats_with number [] = 0
seats_with number (seat ∷ seats) =
    if seat.number == number then suc (seats_with number seats) else seats_with number seats

-- each seat has the receipts of its calls, in order, and each call is of exactly one seat
pub record AreSettled (seats : List Seat) (events : List Event) : Type 0 where
  pub receipts : All (λ (seat : Seat). receipts_of seat ≡ calls_of seat.number 0 events) seats
  pub owned : All (λ (event : Event). seats_with event.seat seats ≡ 1) events
