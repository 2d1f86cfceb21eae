use Rattle.std.proofs.Common.{◌≡◌, ◌++◌}
use Rattle.raft_consistency.proofs.check.listed.Given as goal

abbrev pub invariant-loop-group : goal.invariant-loop-group
invariant-loop-group l = l.pairs.items ++ l.group-iterator ≡ l.initial.group-iterator
