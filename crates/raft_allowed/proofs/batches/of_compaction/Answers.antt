use Rattle.std.proofs.Common.{refl}
use Rattle.raft_allowed.proofs.batches.of_compaction.Goals as goal

pub returns : goal.returns
returns c = rw (c.in_ok-batches.ensures, c.in_ok-batch.ensures) refl
