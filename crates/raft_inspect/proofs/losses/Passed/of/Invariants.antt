use Rattle.std.proofs.Common.{take}
use Rattle.raft_inspect.proofs.KeptLemmas.{IsToldTo}
use Rattle.raft_inspect.proofs.losses.Passed.of.Given as goal

abbrev pub invariant-loop-check : goal.invariant-loop-check
invariant-loop-check l = IsToldTo l.fn.queue (take l.check-index l.checks) l.passed
