use Rattle.std.proofs.Common.{drop}
use Rattle.raft_script.specs.Batches.{batches_of_parts}
use Rattle.raft_allowed.specs.Changes.{batches_in}
use Rattle.raft_allowed.proofs.ActLemmas.{ArePlainOf}
use Rattle.raft_allowed.proofs.batches.batches_of_parts.Given as goal

abbrev pub invariant-loop-part : goal.invariant-loop-part
invariant-loop-part l = ArePlainOf (batches_in l.batches.items) (drop l.part-index l.parts) (batches_of_parts l.parts)
