use Rattle.std.proofs.Common.{◌≡◌, ◌+◌, ◌≤◌, drop}
use Rattle.raft_shared.specs.Settled.{seats_with}
use Rattle.raft_shared.proofs.settled.count_with.Given as goal

abbrev pub invariant-loop-seat : goal.invariant-loop-seat
invariant-loop-seat l =
    (l.count + seats_with l.number (drop l.seat-index l.seats) ≡ seats_with l.number l.seats) × (l.count ≤ l.seat-index)
