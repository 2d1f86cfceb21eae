use Rattle.std.proofs.Common.{refl}
use Rattle.raft_allowed.proofs.groups.with_kept.Goals as goal

pub returns : goal.returns
returns c = rw (c.in_ok-image.ensures, c.in_ok-pairs.ensures, c.deref.ensures.value) refl
