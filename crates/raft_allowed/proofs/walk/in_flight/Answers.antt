use Rattle.std.proofs.Common.{◌∙◌, List, [], ◌∷◌, ◌++◌, ap, refl, subst, sym}
use Rattle.std.specs.Prelude.{Vec}
use Rattle.std.specs.declared.alloc.Global.{Global}
use Rattle.std.proofs.Math.ListN.{drop_of_length-le}
use Rattle.raft_allowed.specs.Changes.{batch_in, batches_in}
use Rattle.raft_allowed.specs.Walk.{AreHeldBy, contents_from, taken_of}
use Rattle.raft_allowed.specs.declared.changes.Change.{Change}
use Rattle.raft_allowed.proofs.TakenLemmas.{flight_more, one_held}
use Rattle.raft_allowed.proofs.walk.in_flight.Goals as goal

pub loop-batch-init : goal.loop-batch-init
loop-batch-init c = λ m held. (m ∷ [], one_held m c.args.last c.push.new.self.items (rw (c.in_ok-push.ensures.items, c.new-found.ensures.items) refl) held, refl)

pub loop-batch-preserved : goal.loop-batch-preserved
loop-batch-preserved c = λ m held.
    let so = c.loop-batch.invariant m held in
    let batch = c.batch-item.result in (
      so.0 ++ taken_of (batch_in batch.items) so.0,
      subst (λ (l : List Change). AreHeldBy c.in_ok-more.more.items (so.0 ++ taken_of (batch_in l) so.0)) c.deref.ensures.value (c.in_ok-more.ensures so.0 so.1),
      flight_more (λ (b : Vec Change Global). batch_in b.items) so.0 _ c.args.batches.now c.loop-batch.batch-index batch c.loop-batch-test.true c.batch-item.is so.2,
    )

pub returns : goal.returns
returns c = λ m held.
    let so = c.loop-batch.invariant m held in
    subst (AreHeldBy c.loop-batch.found.items) (sym (ap (λ (l : List (Vec Change Global)). contents_from so.0 (batches_in l)) (drop_of_length-le c.args.batches.now c.loop-batch-test.false)) ∙ so.2) so.1
