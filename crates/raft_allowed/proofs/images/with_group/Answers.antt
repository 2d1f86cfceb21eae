use Rattle.std.proofs.Common.{refl}
use Rattle.raft_allowed.proofs.images.with_group.Goals as goal

pub returns : goal.returns
returns c = rw (c.in_ok-push_groups-2.ensures, c.in_ok-push_any.ensures, c.in_ok-push_groups.ensures, c.new-new.ensures.items) refl
