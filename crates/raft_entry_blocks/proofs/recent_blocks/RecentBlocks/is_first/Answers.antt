use Rattle.std.proofs.Common.{◌≡◌, ◌∙◌, Some, Option, List, ap, false, option_map, rules, sym, ℕ, slice_get}
use Rattle.std.specs.Prelude.{Vec}
use Rattle.std.specs.Option.{option_map_or}
use Rattle.std.specs.Map.Iter.{deref_pair}
use Rattle.std.specs.declared.alloc.Global.{Global}
use Rattle.raft_base.specs.declared.pipe_log.FileBlockHandle.{FileBlockHandle}
use Rattle.raft_entry_blocks.specs.Recent.{KeptBlocks, is_handle}
use Rattle.raft_entry_blocks.proofs.RecentLemmas.{is_handle-eq}
use Rattle.raft_entry_blocks.proofs.recent_blocks.RecentBlocks.is_first.Goals as goal

pub returns-in-Some-clause-value : goal.returns-in-Some-clause-value
returns-in-Some-clause-value c =
    let first : Some (c.in-Some.first.now, c.in-Some.field-0-1.now) ≡ slice_get c.args.self.now 0 =
    ap (option_map deref_pair) (sym c.in-Some.is) ∙ c.peek_mru.ensures ∙ ap (λ (es : KeptBlocks). slice_get es 0) c.self.view_is in
    c.eq.ensures ∙ sym (is_handle-eq c.args.handle c.in-Some.first.now)
    ∙ ap (λ (o : Option (FileBlockHandle × Vec ℕ Global)). option_map_or (λ block. is_handle c.args.handle block.0) o false) first
