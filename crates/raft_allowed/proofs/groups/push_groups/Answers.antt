use Rattle.std.proofs.Math.ListN.{drop_of_length-le}
use Rattle.std.specs.Ordering.{nat_cmp}
use Rattle.raft_allowed.specs.Held.{group_with_held, held_of, is_between}
use Rattle.raft_allowed.proofs.LoopLemmas.{pushing_ended, pushing_more}
use Rattle.raft_allowed.proofs.groups.push_groups.Goals as goal

pub loop-image-preserved : goal.loop-image-preserved
loop-image-preserved c =
    pushing_more group_with_held (λ g. is_between nat_cmp c.args.after c.args.before g.0) (held_of c.loop-image.into.items) _ c.args.groups.now c.loop-image.image-index c.image-item.result (held_of c.push_group.new.into.items)
    c.loop-image-test.true c.image-item.is c.loop-image.invariant c.in_ok-push_group.ensures

pub returns : goal.returns
returns c =
    pushing_ended group_with_held (λ g. is_between nat_cmp c.args.after c.args.before g.0) (held_of c.loop-image.into.items) _ c.args.groups.now c.loop-image.image-index (drop_of_length-le c.args.groups.now c.loop-image-test.false) c.loop-image.invariant
