use Rattle.std.specs.Ordering.{nat_cmp}
use Rattle.raft_allowed.specs.Held.{held_of}
use Rattle.raft_allowed.proofs.TakenLemmas.{between_all}
use Rattle.raft_allowed.proofs.images.copy_of.Goals as goal

pub returns : goal.returns
returns c = rw (c.in_ok-push_groups.ensures, c.new-groups.ensures.items, c.deref.ensures.value) (between_all nat_cmp (held_of c.args.image.now.groups.items))
