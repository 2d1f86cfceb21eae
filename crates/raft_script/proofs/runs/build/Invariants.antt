use Rattle.std.proofs.Common.{◌≡◌, Some, take}
use Rattle.raft_script.specs.Batches.{batch_of_acts}
use Rattle.raft_script.proofs.RunLemmas.{IsBuilt}
use Rattle.raft_script.proofs.runs.build.Given as goal

abbrev pub invariant-loop-act : goal.invariant-loop-act
invariant-loop-act l = record {
  rest : IsBuilt l.batch.items l.act-index l.acts;
  first : batch_of_acts (take l.act-index l.acts) ≡ Some l.batch.items;
}
