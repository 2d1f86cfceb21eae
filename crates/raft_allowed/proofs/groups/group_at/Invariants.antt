use Rattle.std.proofs.Common.{◌≡◌, drop}
use Rattle.raft_allowed.specs.Held.{held_at, held_of}
use Rattle.raft_allowed.proofs.groups.group_at.Given as goal

abbrev pub invariant-loop-image : goal.invariant-loop-image
invariant-loop-image l = held_at l.group (held_of (drop l.image-index l.groups)) ≡ held_at l.group (held_of l.groups)
