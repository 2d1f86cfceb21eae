use Rattle.std.proofs.Common.{◌≡◌, ◌++◌, length}
use Rattle.raft_dump.specs.Check.{plan_of}
use Rattle.raft_dump.proofs.plan.plan_opening.Given as goal

abbrev pub invariant-files : goal.invariant-files
invariant-files l = l.plan.items ++ plan_of l.mode l.left ≡ plan_of l.mode l.checks

abbrev pub decreases-files : goal.decreases-files
decreases-files l = length l.left
