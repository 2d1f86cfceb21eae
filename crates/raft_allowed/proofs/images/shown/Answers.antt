use Rattle.std.proofs.Common.{◌≡◌, ◌∙◌, ap, subst}
use Rattle.std.proofs.lemmas.List.{take_all}
use Rattle.raft_records.specs.Contents.{after_batch}
use Rattle.raft_records.specs.Item.{Batch}
use Rattle.raft_allowed.specs.Changes.{batch_in}
use Rattle.raft_allowed.specs.Held.{IsHeldBy}
use Rattle.raft_allowed.proofs.ShownLemmas.{forget_items, shown_is}
use Rattle.raft_allowed.proofs.images.shown.Goals as goal

pub returns : goal.returns
returns c = λ m held.
    let images = c.args.image.now.groups.items in
    let new = c.in_ok-applied.applied.image.groups.items in
    let all : batch_in c.deref.result.now ≡ forget_items images = ap batch_in c.deref.ensures.value ∙ c.loop-group.invariant ∙ ap forget_items (take_all c.loop-group.group-index images (rw c.deref-group-items.ensures.value at c.loop-group-test.false)) in
    shown_is m images new held (subst (λ (b : Batch). IsHeldBy (after_batch m b) new) all (c.in_ok-applied.ensures m held).0)
