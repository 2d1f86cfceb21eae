use Rattle.std.proofs.Common.{◌≡◌, ◌<◌, ◌+◌, ◌++◌, ◌∷◌, [], List, length, map, take, sym, ◌∙◌, ap, arith}
use Rattle.std.proofs.lemmas.List.{take_more}
use Rattle.raft_records.specs.LogItem.{item_of}
use Rattle.raft_records.specs.declared.log_item.LogItem.{LogItem}
use Rattle.raft_consistency.specs.Holes.{kept_in, kept_of, kept_then, ranges_by, ranges_of}
use Rattle.raft_consistency.proofs.HoleLemmas.{kept_more, ranges_more}
use Rattle.raft_consistency.proofs.checker.ConsistencyChecker.take.Goals as goal

pub loop-item-preserved : goal.loop-item-preserved
loop-item-preserved c = λ group.
    let items = c.args.items.now in
    let i = c.loop-item.item-index in
    let item = c.item-item.result in
    let so_far = take i items in
    let within : i < length items = omega (arith, c.loop-item-test.true) in
    let more : take (i + 1) items ≡ so_far ++ item ∷ [] = take_more items i item within ∙ ap (λ x. so_far ++ x ∷ []) (sym c.item-item.is) in
    let old = kept_in c.args.self.now group in
    c.in_ok-take_item.ensures.ok group
    ∙ ap (λ o. kept_then o (kept_of (ranges_by group (item_of item)))) (c.loop-item.invariant group)
    ∙ kept_more old (ranges_of group (map item_of so_far)) (ranges_by group (item_of item))
    ∙ ap (λ rs. kept_then old (kept_of rs)) (sym (ranges_more group so_far item))
    ∙ ap (λ (xs : List LogItem). kept_then old (kept_of (ranges_of group (map item_of xs)))) (sym more)
