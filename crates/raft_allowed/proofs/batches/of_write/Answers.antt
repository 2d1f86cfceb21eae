use Rattle.std.proofs.Common.{refl}
use Rattle.raft_allowed.proofs.batches.of_write.Goals as goal

pub returns : goal.returns
returns c = rw (c.in_ok-batches.ensures, c.plain_part-plain.ensures, c.in_ok-changes.ensures) refl
