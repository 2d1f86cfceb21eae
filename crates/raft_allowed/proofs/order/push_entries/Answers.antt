use Rattle.std.proofs.Math.ListN.{drop_of_length-le}
use Rattle.std.proofs.Common.{ℕ}
use Rattle.std.specs.Prelude.{Vec}
use Rattle.std.specs.declared.alloc.Global.{Global}
use Rattle.raft_log_engine.specs.Image.{entries_of}
use Rattle.raft_allowed.specs.Held.{is_within}
use Rattle.raft_allowed.proofs.LoopLemmas.{pushing_ended, pushing_more}
use Rattle.raft_allowed.proofs.order.push_entries.Goals as goal

pub loop-entry-preserved : goal.loop-entry-preserved
loop-entry-preserved c =
    pushing_more (λ (e : ℕ × Vec ℕ Global). (e.0, e.1.items)) (λ e. is_within c.args.from c.args.to e.0) (entries_of c.loop-entry.into.items) _ c.args.entries.now c.loop-entry.entry-index c.entry-item.result (entries_of c.push_entry.new.into.items)
    c.loop-entry-test.true c.entry-item.is c.loop-entry.invariant c.in_ok-push_entry.ensures

pub returns : goal.returns
returns c =
    pushing_ended (λ (e : ℕ × Vec ℕ Global). (e.0, e.1.items)) (λ e. is_within c.args.from c.args.to e.0) (entries_of c.loop-entry.into.items) _ c.args.entries.now c.loop-entry.entry-index (drop_of_length-le c.args.entries.now c.loop-entry-test.false) c.loop-entry.invariant
