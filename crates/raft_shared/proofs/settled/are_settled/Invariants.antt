use Rattle.std.proofs.Common.{◌≡◌, map}
use Rattle.std.specs.List.{All, AllWithin}
use Rattle.raft_shared.specs.Settled.{seats_with}
use Rattle.raft_shared.specs.Shared.{receipts_of}
use Rattle.raft_shared.specs.Words.{calls_of, event_of}
use Rattle.raft_shared.specs.declared.call.Recorded.{Recorded}
use Rattle.raft_shared.specs.declared.seat.Seat.{Seat}
use Rattle.raft_shared.proofs.settled.are_settled.Given as goal

abbrev pub invariant-loop-seat : goal.invariant-loop-seat
invariant-loop-seat l =
    AllWithin (λ (seat : Seat). receipts_of seat ≡ calls_of seat.number 0 (map event_of l.trail)) l.seats 0 l.seat-index

abbrev pub invariant-loop-recorded : goal.invariant-loop-recorded
invariant-loop-recorded l =
    All (λ (seat : Seat). receipts_of seat ≡ calls_of seat.number 0 (map event_of l.trail)) l.seats
    × AllWithin (λ (recorded : Recorded). seats_with recorded.seat l.seats ≡ 1) l.trail 0 l.recorded-index
