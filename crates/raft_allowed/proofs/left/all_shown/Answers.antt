use Rattle.raft_allowed.proofs.ShownLemmas.{shown_all, shown_more}
use Rattle.raft_allowed.proofs.left.all_shown.Goals as goal

pub loop-image-preserved : goal.loop-image-preserved
loop-image-preserved c = λ ms are.
    shown_more c.args.images.now c.loop-image.new.items c.push.new.self.items ms c.loop-image.image-index c.image-item.result c.in_ok-one.one are c.loop-image-test.true c.image-item.is (c.loop-image.invariant ms are) c.in_ok-one.ensures c.in_ok-push.ensures.items

pub returns : goal.returns
returns c = λ ms are. shown_all c.args.images.now c.loop-image.new.items ms c.loop-image.image-index c.loop-image-test.false are (c.loop-image.invariant ms are)
