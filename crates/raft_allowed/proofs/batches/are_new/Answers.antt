use Rattle.std.proofs.Common.{◌∙◌, ap, sym, true, false}
use Rattle.std.proofs.Math.ListN.{drop_of_length-le}
use Rattle.raft_once.specs.Numbers.{are_new}
use Rattle.raft_allowed.proofs.NumberLemmas.{new_at, old_at}
use Rattle.raft_allowed.proofs.batches.are_new.Goals as goal

pub loop-pair-preserved : goal.loop-pair-preserved
loop-pair-preserved c = λ m held.
    new_at m c.args.groups.now c.args.pairs.now c.loop-pair.pair-index (0, 0) c.kept_at.result held c.loop-pair-test.true c.kept_at.ensures (sym c.is_below.ensures ∙ c.if-not-is_below.false) (c.loop-pair.invariant m held)

pub returns-then-not-is_below : goal.returns-then-not-is_below
returns-then-not-is_below c = λ m held.
    old_at m c.args.groups.now c.args.pairs.now c.loop-pair.pair-index (0, 0) c.kept_at.result held c.loop-pair-test.true c.kept_at.ensures (sym c.is_below.ensures ∙ c.if-not-is_below.true) (c.loop-pair.invariant m held)

pub returns : goal.returns
returns c = λ m held. sym (ap (are_new m) (drop_of_length-le c.args.pairs.now c.loop-pair-test.false)) ∙ c.loop-pair.invariant m held
