use Rattle.std.proofs.Common.{◌≡◌, ◌∙◌, ◌<◌, ap, length, refl, rules, subst, sym}
use Rattle.std.specs.List.{filter}
use Rattle.raft_entry_blocks.specs.Recent.{KeptBlocks, is_from}
use Rattle.raft_entry_blocks.proofs.LruLemmas.{IsBefore, found_before, none_before, popped}
use Rattle.raft_entry_blocks.proofs.recent_blocks.pop_each_before.Goals as goal

before : (c : goal.After-drop) → IsBefore c.args.append c.args.rewrite c.in-Some.handle c.loop-handle.blocks.entries
before c = found_before c.args.append c.args.rewrite c.in-Some.handle c.loop-handle.blocks.entries (sym c.in-Some.is ∙ c.first_before.ensures.value)

pub loop-handle-init : goal.loop-handle-init
loop-handle-init c = (refl, refl)

pub loop-handle-smaller : goal.loop-handle-smaller
loop-handle-smaller c =
    subst (λ (es : KeptBlocks). length es < length c.loop-handle.blocks.entries) (sym (ap (λ x. x.entries) c.pop_entry.ensures.entries))
    (popped c.args.append c.args.rewrite c.in-Some.handle c.loop-handle.blocks.entries (before c)).1

pub loop-handle-preserved : goal.loop-handle-preserved
loop-handle-preserved c = (
  ap (λ x. filter (is_from c.args.append c.args.rewrite) x.entries) c.pop_entry.ensures.entries
      ∙ (popped c.args.append c.args.rewrite c.in-Some.handle c.loop-handle.blocks.entries (before c)).0 ∙ c.loop-handle.invariant.0,
  ap (λ x. x.cap) c.pop_entry.ensures.entries ∙ c.loop-handle.invariant.1,
)

pub returns-clause-value : goal.returns-clause-value
returns-clause-value c =
    none_before c.args.append c.args.rewrite c.loop-handle.blocks.entries (sym c.in_default.is ∙ c.first_before.ensures.value) ∙ c.loop-handle.invariant.0

pub returns-clause-cap : goal.returns-clause-cap
returns-clause-cap c = c.loop-handle.invariant.1
