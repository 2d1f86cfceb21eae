use Rattle.std.proofs.Common.{◌∙◌, ap, sym}
use Rattle.raft_allowed.proofs.GroupLemmas.{at_here, at_later, at_none, group_pair, same_number}
use Rattle.raft_allowed.proofs.groups.group_at.Goals as goal

pub loop-image-preserved : goal.loop-image-preserved
loop-image-preserved c =
    at_later c.args.groups.now c.loop-image.image-index c.image-item.result c.args.group c.loop-image-test.true c.image-item.is (sym c.is_of.ensures ∙ c.if-is_of.false) c.loop-image.invariant

pub returns-then-is_of : goal.returns-then-is_of
returns-then-is_of c =
    same_number c.args.group c.image-item.result c.copy_of.result _ (sym c.is_of.ensures ∙ c.if-is_of.true) c.copy_of.ensures
    (at_here c.args.groups.now c.loop-image.image-index c.image-item.result c.args.group c.loop-image-test.true c.image-item.is (sym c.is_of.ensures ∙ c.if-is_of.true) c.loop-image.invariant)

pub returns : goal.returns
returns c = rw (c.new.ensures.items, c.new-2.ensures.items) (ap (group_pair c.args.group) (at_none c.args.groups.now c.loop-image.image-index c.args.group c.loop-image-test.false c.loop-image.invariant))
