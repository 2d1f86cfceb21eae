use Rattle.std.proofs.Common.{refl}
use Rattle.raft_allowed.proofs.parts.with_pair.Goals as goal

pub returns : goal.returns
returns c = rw (c.in_ok-push_pairs-2.ensures, c.in_ok-push_one.ensures, c.in_ok-push_pairs.ensures, c.new-new.ensures.items) refl
