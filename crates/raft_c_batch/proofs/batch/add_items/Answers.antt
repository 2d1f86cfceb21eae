use Rattle.std.proofs.Common.{◌≡◌, ◌-◌, ◌+◌, ◌∙◌, Some, length, refl, sym, arith, rules}
use Rattle.std.proofs.lemmas.Bool.{eqb-true, eqb-false}
use Rattle.raft_codec.specs.Number.{take_u64}
use Rattle.raft_c_batch.proofs.LoopLemmas.{begun_more, if_err, item_added, item_refused, items_end, items_fill, items_left}
use Rattle.raft_c_batch.proofs.batch.add_items.Goals as goal

pub returns-in_err-rest-clause-cause : goal.returns-in_err-rest-clause-cause
returns-in_err-rest-clause-cause c =
    let counted : take_u64 c.args.bytes.now ≡ Some (c.in_ok-count.count, c.in_ok-count.rest.now) = search rules in
    if_err _ _ _ c.from_residual-in_err-rest.ensures.1
    (item_refused c.in_err-rest.field-0.0 c.args.batch.now.items c.loop.batch.items c.in_ok-count.count c.loop.counter (c.in_ok-count.count - c.loop.counter) c.args.bytes.now c.in_ok-count.rest.now c.loop.rest.now (omega arith) (omega arith) counted c.loop.invariant.read c.loop.invariant.begun c.in_err-rest.ensures.cause)

pub loop-init : goal.loop-init
loop-init c = record { read = search rules; begun = items_end c.args.batch.now.items 0 c.in_ok-count.rest.now refl }

pub loop-preserved : goal.loop-preserved
loop-preserved c =
    let next = item_added c.loop.batch.items c.add_item.new.batch.items (c.in_ok-count.count - c.loop.counter) (c.in_ok-count.count - (c.loop.counter + 1)) c.loop.rest.now c.in_ok-rest.rest.now (omega arith) c.in_ok-rest.ensures.ok in
    let begun = begun_more c.args.batch.now.items c.loop.batch.items c.add_item.new.batch.items c.loop.counter (c.loop.counter + 1) c.in_ok-count.rest.now c.loop.rest.now c.in_ok-rest.rest.now (omega arith) c.loop.invariant.begun c.in_ok-rest.ensures.ok in
    record { read = next ∙ c.loop.invariant.read; begun = begun }

pub returns-then-is_empty-clause-ok : goal.returns-then-is_empty-clause-ok
returns-then-is_empty-clause-ok c =
    let counted : take_u64 c.args.bytes.now ≡ Some (c.in_ok-count.count, c.in_ok-count.rest.now) = search rules in
    let all = items_end c.loop.batch.items (c.in_ok-count.count - c.loop.counter) c.loop.rest.now (omega arith) in
    items_fill c.args.batch.now.items c.loop.batch.items c.in_ok-count.count c.args.bytes.now c.in_ok-count.rest.now c.loop.rest.now counted (sym c.loop.invariant.read ∙ all)
    (eqb-true (length c.loop.rest.now) 0 (sym c.is_empty.ensures ∙ c.if-is_empty.true))

pub returns-else-is_empty-clause-cause : goal.returns-else-is_empty-clause-cause
returns-else-is_empty-clause-cause c =
    let counted : take_u64 c.args.bytes.now ≡ Some (c.in_ok-count.count, c.in_ok-count.rest.now) = search rules in
    let all = items_end c.loop.batch.items (c.in_ok-count.count - c.loop.counter) c.loop.rest.now (omega arith) in
    items_left c.args.batch.now.items c.loop.batch.items c.in_ok-count.count c.args.bytes.now c.in_ok-count.rest.now c.loop.rest.now counted (sym c.loop.invariant.read ∙ all)
    (eqb-false (length c.loop.rest.now) 0 (sym c.is_empty.ensures ∙ c.if-is_empty.false))
