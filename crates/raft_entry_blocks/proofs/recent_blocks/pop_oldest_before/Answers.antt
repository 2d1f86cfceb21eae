use Rattle.std.proofs.Common.{◌≡◌, ◌∙◌, ◌<◌, ◌-◌, Some, ap, false, length, option_map, refl, slice_get, subst, sym, take}
use Rattle.std.specs.List.{filter}
use Rattle.std.specs.Map.Iter.{deref_pair}
use Rattle.raft_entry_blocks.specs.Recent.{KeptBlocks, is_from}
use Rattle.raft_entry_blocks.proofs.LruLemmas.{popped_last}
use Rattle.raft_entry_blocks.proofs.recent_blocks.pop_oldest_before.Goals as goal

last : (c : goal.After-drop) → (filter (is_from c.args.append c.args.rewrite) (take (length c.loop-handle.blocks.entries - 1) c.loop-handle.blocks.entries) ≡ filter (is_from c.args.append c.args.rewrite) c.loop-handle.blocks.entries) × (length (take (length c.loop-handle.blocks.entries - 1) c.loop-handle.blocks.entries) < length c.loop-handle.blocks.entries)
last c =
    let es = c.loop-handle.blocks.entries in
    let is : Some (c.in-Some.handle.now, c.in-Some.field-0-1.now) ≡ slice_get es (length es - 1) = ap (option_map deref_pair) (sym c.in-Some.is) ∙ c.peek_lru.ensures in
    let drops : is_from c.args.append c.args.rewrite (c.in-Some.handle.now, c.in-Some.field-0-1.now) ≡ false = sym c.is_from.ensures.value ∙ c.if-is_from.false in
    popped_last c.args.append c.args.rewrite es (c.in-Some.handle.now, c.in-Some.field-0-1.now) is drops

pub loop-handle-init : goal.loop-handle-init
loop-handle-init c = (refl, refl)

pub loop-handle-smaller : goal.loop-handle-smaller
loop-handle-smaller c =
    subst (λ (es : KeptBlocks). length es < length c.loop-handle.blocks.entries) (sym (ap (λ x. x.entries) c.pop_lru.ensures.entries)) (last c).1

pub loop-handle-preserved : goal.loop-handle-preserved
loop-handle-preserved c = (
  ap (λ x. filter (is_from c.args.append c.args.rewrite) x.entries) c.pop_lru.ensures.entries ∙ (last c).0 ∙ c.loop-handle.invariant.0,
  ap (λ x. x.cap) c.pop_lru.ensures.entries ∙ c.loop-handle.invariant.1,
)

pub returns-then-is_from-clause-value : goal.returns-then-is_from-clause-value
returns-then-is_from-clause-value c = c.loop-handle.invariant.0

pub returns-then-is_from-clause-cap : goal.returns-then-is_from-clause-cap
returns-then-is_from-clause-cap c = c.loop-handle.invariant.1

pub returns-in_default-clause-value : goal.returns-in_default-clause-value
returns-in_default-clause-value c = c.loop-handle.invariant.0

pub returns-in_default-clause-cap : goal.returns-in_default-clause-cap
returns-in_default-clause-cap c = c.loop-handle.invariant.1
