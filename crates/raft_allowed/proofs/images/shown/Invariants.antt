use Rattle.std.proofs.Common.{◌≡◌, take}
use Rattle.raft_allowed.specs.Changes.{batch_in}
use Rattle.raft_allowed.proofs.ShownLemmas.{forget_items}
use Rattle.raft_allowed.proofs.images.shown.Given as goal

abbrev pub invariant-loop-group : goal.invariant-loop-group
invariant-loop-group l = batch_in l.deletes.items ≡ forget_items (take l.group-index l.image.groups.items)
