use Rattle.std.proofs.Math.ListN.{drop_of_length-le}
use Rattle.std.proofs.Common.{ap}
use Rattle.raft_log_engine.specs.Group.{accepted_in}
use Rattle.raft_script.specs.Batches.{answers_in}
use Rattle.raft_allowed.specs.Changes.{batch_in, batches_in}
use Rattle.raft_allowed.specs.Walk.{with_batches}
use Rattle.raft_allowed.proofs.WalkLemmas.{accepting_begun, accepting_ended, accepting_on}
use Rattle.raft_allowed.proofs.walk.accept.Goals as goal

pub loop-place-init : goal.loop-place-init
loop-place-init c = λ p is. accepting_begun p (answers_in c.args.outcome.now) (batches_in c.args.batches.now) c.args.reached.now is

pub loop-place-preserved : goal.loop-place-preserved
loop-place-preserved c = λ p is.
    let answers = answers_in c.args.outcome.now in
    let whole = with_batches p (accepted_in answers (batches_in c.args.batches.now)) in
    accepting_on (λ batch. batch_in batch.items) whole answers c.args.batches.now c.loop-place.place c.index-batches-place.result c.is_accepted.result (batch_in c.deref.result.now) c.loop-place.reached c.accept_one.new.reached
    c.loop-place-test.true c.index-batches-place.is c.is_accepted.ensures (ap batch_in c.deref.ensures.value) (c.loop-place.invariant p is) c.in_ok-accept_one.ensures

pub returns : goal.returns
returns c = λ p is.
    let answers = answers_in c.args.outcome.now in
    let whole = with_batches p (accepted_in answers (batches_in c.args.batches.now)) in
    accepting_ended whole answers c.loop-place.place _ c.loop-place.reached (ap batches_in (drop_of_length-le c.args.batches.now c.loop-place-test.false)) (c.loop-place.invariant p is)
