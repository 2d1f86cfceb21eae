use Rattle.std.proofs.Common.{◌≡◌, ◌∙◌, ap, map, refl, rules}
use Rattle.std.proofs.lemmas.List.{take_all}
use Rattle.raft_script.specs.Batches.{indexed_bytes}
use Rattle.raft_script.proofs.EntryLemmas.{same_more, split_more}
use Rattle.raft_script.proofs.runs.split_entries.Goals as goal

pub loop-entry-preserved : goal.loop-entry-preserved
loop-entry-preserved c =
    let kept = c.loop-entry.invariant in
    let old = c.loop-entry.indexes.items in
    let copies = c.loop-entry.copies.items in
    let copy = c.in_ok-to_vec.field-0 in
    let bytes : copy.items ≡ c.entry-item.result.1.items = search rules in
    record {
      len = same_more old c.push.new.self.items _ copies c.push-in-loop-entry.new.self.items copy c.in_ok-push.ensures.items c.in_ok-push-2.ensures.items kept.len;
      split = split_more old c.push.new.self.items _ copies c.push-in-loop-entry.new.self.items copy c.in_ok-push.ensures.items c.in_ok-push-2.ensures.items kept.len c.args.entries.now c.loop-entry.entry-index c.entry-item.result c.loop-entry-test.true c.entry-item.is refl bytes kept.split;
    }

pub returns-clause-value : goal.returns-clause-value
returns-clause-value c = c.loop-entry.invariant.split ∙ ap (map indexed_bytes) (take_all c.loop-entry.entry-index c.args.entries.now c.loop-entry-test.false)
