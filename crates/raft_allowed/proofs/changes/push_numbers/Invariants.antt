use Rattle.std.proofs.Common.{◌≡◌, take}
use Rattle.raft_once.specs.Numbers.{numbered}
use Rattle.raft_allowed.specs.Changes.{batch_in}
use Rattle.raft_allowed.proofs.changes.push_numbers.Given as goal

abbrev pub invariant-loop-pair : goal.invariant-loop-pair
invariant-loop-pair l = batch_in l.changes.items ≡ numbered (batch_in l.initial.changes.items) (take l.pair-index l.pairs)
