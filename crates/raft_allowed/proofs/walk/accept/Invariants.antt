use Rattle.std.proofs.Common.{drop}
use Rattle.raft_log_engine.specs.Group.{accepted_in}
use Rattle.raft_script.specs.Batches.{answers_in}
use Rattle.raft_script.specs.Headline.{Progress}
use Rattle.raft_allowed.specs.Changes.{batches_in}
use Rattle.raft_allowed.specs.Walk.{IsReached, with_batches}
use Rattle.raft_allowed.proofs.WalkLemmas.{IsAccepting}
use Rattle.raft_allowed.proofs.walk.accept.Given as goal

abbrev pub invariant-loop-place : goal.invariant-loop-place
invariant-loop-place l = (p : Progress) → IsReached p l.initial.reached → IsAccepting (with_batches p (accepted_in (answers_in l.outcome) (batches_in l.batches))) (answers_in l.outcome) l.place (batches_in (drop l.place l.batches)) l.reached
