use Rattle.std.proofs.Common.{◌≡◌, true, take}
use Rattle.raft_once.specs.History.{are_numbers}
use Rattle.raft_world.proofs.calls.numbers_fit.Given as goal

abbrev pub invariant-loop-number : goal.invariant-loop-number
invariant-loop-number l = are_numbers (take l.number-index l.pairs) ≡ true
