use Rattle.std.proofs.Common.{refl}
use Rattle.raft_allowed.proofs.groups.compacted.Goals as goal

pub returns : goal.returns
returns c = rw (c.in_ok-image.ensures, c.in_ok-push_entries.ensures, c.new-entries.ensures.items, c.deref.ensures.value) refl
