use Rattle.std.proofs.Common.{refl}
use Rattle.raft_allowed.proofs.parts.with_number.Goals as goal

pub returns : goal.returns
returns c = rw (c.in_ok-new.ensures, c.deref.ensures.value, c.in_ok-push_u64.ensures.contents, c.new-value.ensures.items) refl
