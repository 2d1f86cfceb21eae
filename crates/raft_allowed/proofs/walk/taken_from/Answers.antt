use Rattle.std.proofs.Common.{◌∙◌}
use Rattle.raft_allowed.specs.Changes.{batch_in, item_of}
use Rattle.raft_allowed.proofs.LoopLemmas.{nil_mapped}
use Rattle.raft_allowed.proofs.TakenLemmas.{taken_all, taken_step}
use Rattle.raft_allowed.proofs.walk.taken_from.Goals as goal

pub loop-image-preserved : goal.loop-image-preserved
loop-image-preserved c = λ ms are.
    taken_step (batch_in c.args.batch.now) ms c.loop-image.taken.items c.args.found.now c.push_if_fits.new.taken.items c.loop-image.image-index c.image-item.result c.in_ok-applied.applied.image c.in_ok-applied.applied.fits (nil_mapped item_of c.args.batch.now ∙ c.requires) are
    c.loop-image-test.true c.image-item.is (c.loop-image.invariant ms are) c.in_ok-applied.ensures c.in_ok-push_if_fits.ensures

pub returns : goal.returns
returns c = λ ms are. taken_all (batch_in c.args.batch.now) c.args.found.now c.loop-image.taken.items ms c.loop-image.image-index c.loop-image-test.false are (c.loop-image.invariant ms are)
