use Rattle.std.proofs.Math.ListN.{drop_of_length-le}
use Rattle.std.proofs.Common.{ℕ}
use Rattle.std.specs.Prelude.{Vec}
use Rattle.std.specs.Cmp.Lexicographic.{slice_cmp}
use Rattle.std.specs.Option.{option_copied}
use Rattle.std.specs.Ordering.{nat_cmp}
use Rattle.std.specs.declared.alloc.Global.{Global}
use Rattle.raft_tables.specs.Listing.{listed}
use Rattle.raft_allowed.specs.Held.{is_between}
use Rattle.raft_allowed.proofs.LoopLemmas.{pushing_ended, pushing_more}
use Rattle.raft_allowed.proofs.order.push_pairs.Goals as goal

pub loop-pair-preserved : goal.loop-pair-preserved
loop-pair-preserved c =
    pushing_more (λ (p : Vec ℕ Global × Vec ℕ Global). (p.0.items, p.1.items)) (λ p. is_between (slice_cmp nat_cmp) (option_copied c.args.after) (option_copied c.args.before) p.0) (listed c.loop-pair.into.items) _ c.args.pairs.now c.loop-pair.pair-index c.pair-item.result (listed c.push_pair.new.into.items)
    c.loop-pair-test.true c.pair-item.is c.loop-pair.invariant c.in_ok-push_pair.ensures

pub returns : goal.returns
returns c =
    pushing_ended (λ (p : Vec ℕ Global × Vec ℕ Global). (p.0.items, p.1.items)) (λ p. is_between (slice_cmp nat_cmp) (option_copied c.args.after) (option_copied c.args.before) p.0) (listed c.loop-pair.into.items) _ c.args.pairs.now c.loop-pair.pair-index (drop_of_length-le c.args.pairs.now c.loop-pair-test.false) c.loop-pair.invariant
