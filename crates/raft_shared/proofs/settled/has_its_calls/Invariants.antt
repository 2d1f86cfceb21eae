use Rattle.std.proofs.Common.{◌≤◌, length}
use Rattle.raft_shared.proofs.SettledLemmas.{IsSameLeft}
use Rattle.raft_shared.proofs.settled.has_its_calls.Given as goal

abbrev pub invariant-loop-number : goal.invariant-loop-number
invariant-loop-number l = (l.next ≤ length l.receipts) × IsSameLeft l.fn.seat.number l.receipts l.trail l.next l.number
