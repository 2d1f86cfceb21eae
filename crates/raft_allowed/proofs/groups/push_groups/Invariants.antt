use Rattle.std.proofs.Common.{◌++◌, drop}
use Rattle.std.specs.Ordering.{nat_cmp}
use Rattle.raft_allowed.specs.Held.{between, group_with_held, held_of, is_between}
use Rattle.raft_allowed.proofs.LoopLemmas.{IsPushing}
use Rattle.raft_allowed.proofs.groups.push_groups.Given as goal

abbrev pub invariant-loop-image : goal.invariant-loop-image
invariant-loop-image l =
    IsPushing group_with_held (λ g. is_between nat_cmp l.after l.before g.0) (held_of l.into.items) (drop l.image-index l.groups)
    (held_of l.initial.into.items ++ between nat_cmp l.after l.before (held_of l.groups))
