use Rattle.std.proofs.Common.{List, subst, sym}
use Rattle.std.proofs.lemmas.List.{take_all}
use Rattle.raft_allowed.specs.Changes.{batch_in, item_of}
use Rattle.raft_allowed.specs.declared.changes.Change.{Change}
use Rattle.raft_allowed.specs.Held.{AreGroupsOf, held_of}
use Rattle.raft_allowed.proofs.ImageLemmas.{AreAppliedTo, applied_on}
use Rattle.raft_allowed.proofs.images.after_batch.Goals as goal

pub loop-change-preserved : goal.loop-change-preserved
loop-change-preserved c = λ m held.
    applied_on item_of m c.args.batch.now c.loop-change.change-index c.change-item.result (held_of c.loop-change.image.groups.items) (held_of c.in_ok-applied.applied.image.groups.items) c.loop-change.fits c.in_ok-applied.applied.fits c.both-fits.result
    c.loop-change-test.true c.change-item.is (c.loop-change.invariant m held) c.in_ok-applied.ensures.value c.in_ok-applied.ensures.fits c.both-fits.ensures

pub returns : goal.returns
returns c = λ m held.
    let so = subst (λ (l : List Change). AreAppliedTo m (batch_in l) (held_of c.loop-change.image.groups.items) c.loop-change.fits) (take_all c.loop-change.change-index c.args.batch.now c.loop-change-test.false) (c.loop-change.invariant m (subst (AreGroupsOf m) (sym c.in_ok-image.ensures) held)) in
    (so.groups_are, so.fits_is)
