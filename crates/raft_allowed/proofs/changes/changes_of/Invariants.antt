use Rattle.std.proofs.Common.{drop}
use Rattle.raft_script.specs.Batches.{batch_of_acts}
use Rattle.raft_allowed.specs.Changes.{batch_in}
use Rattle.raft_allowed.proofs.ActLemmas.{AreOfActs}
use Rattle.raft_allowed.proofs.changes.changes_of.Given as goal

abbrev pub invariant-loop-act : goal.invariant-loop-act
invariant-loop-act l = AreOfActs (batch_in l.changes.items) (drop l.act-index l.acts) (batch_of_acts l.acts)
