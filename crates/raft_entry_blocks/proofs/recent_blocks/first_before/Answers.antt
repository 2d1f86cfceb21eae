use Rattle.std.proofs.Common.{◌≡◌, ◌∙◌, None, Some, Option, Bool, ap, not, option_map, rules, tests, sym, ℕ}
use Rattle.std.specs.Prelude.{Vec}
use Rattle.std.specs.List.{find}
use Rattle.std.specs.Map.Iter.{deref_pair}
use Rattle.std.specs.declared.alloc.Global.{Global}
use Rattle.std.proofs.lemmas.Iterator.Consumers.{YieldsList-from_rest}
use Rattle.std.proofs.lemmas.Iterator.Search.{find_from_yields_List}
use Rattle.raft_base.specs.declared.pipe_log.FileBlockHandle.{FileBlockHandle}
use Rattle.raft_entry_blocks.specs.Recent.{is_from}
use Rattle.raft_entry_blocks.proofs.recent_blocks.first_before.Goals as goal

abbrev test : ℕ → ℕ → FileBlockHandle × Vec ℕ Global → Bool
test append rewrite block = not (is_from append rewrite block)

pub returns-in_err-handle : goal.returns-in_err-handle
returns-in_err-handle c =
    let found : option_map deref_pair c.find.result ≡ find (test c.args.append c.args.rewrite) c.args.blocks.now.entries =
    find_from_yields_List (test c.args.append c.args.rewrite) _ _ c.find.result c.find.ensures.ran (YieldsList-from_rest c.args.blocks.now.entries c.iter.ensures.rest) (λ x b q k. search (rules, tests)) in
    record { value = search (rules, found) }

pub returns : goal.returns
returns c =
    let found : option_map deref_pair c.find.result ≡ find (test c.args.append c.args.rewrite) c.args.blocks.now.entries =
    find_from_yields_List (test c.args.append c.args.rewrite) _ _ c.find.result c.find.ensures.ran (YieldsList-from_rest c.args.blocks.now.entries c.iter.ensures.rest) (λ x b q k. search (rules, tests)) in
    record { value = ap (λ (o : Option (FileBlockHandle × Vec ℕ Global)). option_map (λ block. block.0) o) (ap (option_map deref_pair) (sym c.in_ok-handle.was) ∙ found) }
