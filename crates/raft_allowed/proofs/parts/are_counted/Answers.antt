use Rattle.std.proofs.Common.{◌∙◌, sym}
use Rattle.raft_allowed.proofs.EntriesLemmas.{counted_all, counted_more, counted_no_more}
use Rattle.raft_allowed.proofs.parts.are_counted.Goals as goal

pub loop-place-preserved : goal.loop-place-preserved
loop-place-preserved c =
    counted_more c.args.entries.now c.args.start c.loop-place.place c.index-entries-place.result c.loop-place-test.true c.index-entries-place.is (sym c.is_counted.ensures ∙ c.if-not-is_counted.false) c.loop-place.invariant

pub returns-then-not-is_counted : goal.returns-then-not-is_counted
returns-then-not-is_counted c =
    counted_no_more c.args.entries.now c.args.start c.loop-place.place c.index-entries-place.result c.loop-place-test.true c.index-entries-place.is (sym c.is_counted.ensures ∙ c.if-not-is_counted.true) c.loop-place.invariant

pub returns : goal.returns
returns c = counted_all c.args.entries.now c.args.start c.loop-place.place c.loop-place-test.false c.loop-place.invariant
