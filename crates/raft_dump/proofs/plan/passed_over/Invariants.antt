use Rattle.raft_dump.specs.Check.{numbers_of}
use Rattle.raft_dump.proofs.CheckLemmas.{RiseBefore}
use Rattle.raft_dump.proofs.plan.passed_over.Given as goal

abbrev pub invariant-loop-place : goal.invariant-loop-place
invariant-loop-place l = RiseBefore (numbers_of l.checks) l.passed l.place
