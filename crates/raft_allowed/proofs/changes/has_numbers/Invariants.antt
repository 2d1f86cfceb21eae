use Rattle.std.proofs.Common.{◌≡◌, drop}
use Rattle.raft_once.specs.Numbers.{has_numbers}
use Rattle.raft_allowed.specs.Changes.{batch_in}
use Rattle.raft_allowed.proofs.changes.has_numbers.Given as goal

abbrev pub invariant-loop-change : goal.invariant-loop-change
invariant-loop-change l = has_numbers (batch_in (drop l.change-index l.changes)) ≡ has_numbers (batch_in l.changes)
