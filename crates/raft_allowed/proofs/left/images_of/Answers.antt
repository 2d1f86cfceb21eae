use Rattle.std.proofs.Common.{◌≡◌, ◌∙◌, ◌++◌, ◌∷◌, [], List, arith, refl, subst, sym}
use Rattle.raft_records.specs.Contents.{Contents, after_batches, no_contents}
use Rattle.raft_records.specs.Item.{Batch}
use Rattle.raft_log_engine.specs.declared.engine.image.Image.{Image}
use Rattle.raft_script.specs.Durability.{progress_after_all}
use Rattle.raft_script.specs.Headline.{progress_from}
use Rattle.raft_allowed.specs.Changes.{batches_in}
use Rattle.raft_allowed.specs.Walk.{AreHeldBy, IsReached, batches_at, contents_from}
use Rattle.raft_allowed.proofs.WalkLemmas.{all_complete, all_sound, begun, walking_done, walking_on}
use Rattle.raft_allowed.proofs.left.images_of.Goals as goal

pub loop-place-init : goal.loop-place-init
loop-place-init c = record { so_far = progress_from []; is = begun _ (rw c.new.ensures.items refl) (rw c.new-2.ensures.items refl); leads = refl }

pub loop-place-preserved : goal.loop-place-preserved
loop-place-preserved c =
    walking_on (progress_after_all no_contents (progress_from []) c.args.ops.now c.args.outcomes.now) c.args.ops.now c.args.outcomes.now c.loop-place.place c.index-ops-place.result c.index-outcomes-place.result c.loop-place.reached c.go_on.new.reached
    c.loop-place-test.true c.index-ops-place.is (omega (arith, c.requires.as_many)) c.index-outcomes-place.is c.loop-place.invariant c.in_ok-go_on.ensures

pub returns : goal.returns
returns c =
    let ops = c.args.ops.now in
    let outcomes = c.args.outcomes.now in
    let end = progress_after_all no_contents (progress_from []) ops outcomes in
    let whole = after_batches no_contents end.batches in
    let reached = c.loop-place.reached in
    let is : IsReached end reached = walking_done end ops outcomes c.loop-place.place reached c.loop-place-test.false c.loop-place.invariant in
    let found = c.in_ok-found.found.items in
    let batches : batches_in c.in_ok-batches.batches.items ≡ batches_at whole ops c.args.failed_at = c.in_ok-batches.ensures whole is.last in
    let are : AreHeldBy found (contents_from (whole ∷ []) (batches_at whole ops c.args.failed_at)) = subst (λ (l : List Batch). AreHeldBy found (contents_from (whole ∷ []) l)) batches (rw c.deref.ensures.value at (c.in_ok-found.ensures whole is.last)) in
    let shows = λ (ms : List Contents) (all : AreHeldBy (reached.earlier.items ++ found) ms). c.in_ok-shown.ensures ms (subst (λ (l : List Image). AreHeldBy l ms) (sym (c.deref-2.ensures.value ∙ c.in_ok-append.ensures.items)) all) in
    record {
      sound = all_sound c.args.failed_at ops outcomes c.requires reached is found c.in_ok-shown.shown.items are shows;
      complete = all_complete c.args.failed_at ops outcomes c.requires reached is found c.in_ok-shown.shown.items are shows;
    }
