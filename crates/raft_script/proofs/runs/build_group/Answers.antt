use Rattle.std.proofs.Common.{◌≡◌, ◌∙◌, ◌+◌, ◌++◌, ◌∷◌, [], Bool, List, Some, ap, inr, map, subst, sym, take}
use Rattle.std.proofs.lemmas.List.{map-append, take_all}
use Rattle.std.proofs.lemmas.Result.{err_from_is_err_and}
use Rattle.raft_records.specs.Batch.{BatchView}
use Rattle.raft_records.specs.Item.{Batch}
use Rattle.raft_log_engine.specs.Group.{items_of}
use Rattle.raft_script.specs.Batches.{Part, batch_of_acts}
use Rattle.raft_script.specs.Run.{IsUnbuilt}
use Rattle.raft_script.specs.declared.operation.Act.{Act}
use Rattle.raft_script.proofs.GroupLemmas.{AreBuilt, built_all, built_more}
use Rattle.raft_script.proofs.RunLemmas.{taken_more}
use Rattle.raft_script.proofs.runs.build_group.Goals as goal

pub loop-part-preserved : goal.loop-part-preserved
loop-part-preserved c =
    let parts = c.args.parts.now in
    let i = c.loop-part.part-index in
    let part = c.part-item.result in
    let kept = c.loop-part.invariant in
    let taken = taken_more parts i part c.loop-part-test.true c.part-item.is in
    let batch = c.in_ok-build.field-0 in
    let of_part : batch_of_acts part.0.items ≡ Some batch.items = ap batch_of_acts (sym c.deref.ensures.value) ∙ c.in_ok-build.ensures.value in
    let items : items_of c.push.new.self.items ≡ items_of c.loop-part.batches.items ++ batch.items ∷ [] =
    ap items_of c.in_ok-push.ensures.items ∙ map-append (λ (b : BatchView). b.items) c.loop-part.batches.items (batch ∷ []) in
    record {
      built = subst (λ (l : List Batch). AreBuilt (take (i + 1) parts) l) (sym items) (subst (λ (l : List Part). AreBuilt l (items_of c.loop-part.batches.items ++ batch.items ∷ [])) (sym taken) (built_more (take i parts) (items_of c.loop-part.batches.items) part batch.items kept.built of_part));
      flags = c.in_ok-push-2.ensures.items ∙ ap (λ (l : List Bool). l ++ part.1 ∷ []) kept.flags ∙ sym (map-append (λ (p : Part). p.1) (take i parts) (part ∷ [])) ∙ ap (map (λ (p : Part). p.1)) (sym taken);
    }

pub returns-in_err-build-clause-cause : goal.returns-in_err-build-clause-cause
returns-in_err-build-clause-cause c =
    let p = err_from_is_err_and c.from_residual-in_err-build.result c.from_residual-in_err-build.ensures.1 in
    rw (p.1, p.2) (inr (
      c.loop-part.part-index,
      c.part-item.result,
      c.loop-part-test.true,
      sym c.part-item.is,
      subst (λ (acts : List Act). IsUnbuilt acts c.in_err-build.field-0.0) c.deref.ensures.value c.in_err-build.ensures.cause,
    ))

pub returns-clause-value : goal.returns-clause-value
returns-clause-value c =
    let parts = c.args.parts.now in
    let whole : take c.loop-part.part-index parts ≡ parts = take_all c.loop-part.part-index parts c.loop-part-test.false in
    built_all parts (items_of c.loop-part.batches.items) (subst (λ (l : List Part). AreBuilt l (items_of c.loop-part.batches.items)) whole c.loop-part.invariant.built)

pub returns-clause-ok : goal.returns-clause-ok
returns-clause-ok c =
    let parts = c.args.parts.now in
    c.loop-part.invariant.flags ∙ ap (map (λ (p : Part). p.1)) (take_all c.loop-part.part-index parts c.loop-part-test.false)
