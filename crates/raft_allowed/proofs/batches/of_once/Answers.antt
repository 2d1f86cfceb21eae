use Rattle.std.proofs.Common.{refl}
use Rattle.raft_allowed.proofs.batches.of_once.Goals as goal

pub returns : goal.returns
returns c = λ m held. rw (c.in_ok-batches.ensures, c.in_ok-changes.ensures m held) refl
