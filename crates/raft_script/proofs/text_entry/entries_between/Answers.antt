use Rattle.std.proofs.Common.{◌≡◌, ℕ, ◌+◌, ◌-◌, ◌∙◌, ap, arith, map}
use Rattle.std.specs.List.{range_with_len}
use Rattle.raft_script.specs.Entry.{text_entries, text_entry}
use Rattle.raft_script.specs.Batches.{indexed_bytes}
use Rattle.raft_script.proofs.EntryLemmas.{entries_more}
use Rattle.raft_script.proofs.text_entry.entries_between.Goals as goal
use Rattle.raft_script.proofs.text_entry.entries_between.Goals.{else-loop-index-test, then-loop-index-test+in_ok-text+in_ok-push+else-index-last}

pub loop-index-preserved : goal.loop-index-preserved
loop-index-preserved c =
    let kept = c.loop-index.invariant in
    record {
      low = omega (arith, kept.low);
      few = omega (arith, kept.low, kept.few);
      entries = entries_more c.args.first c.loop-index.index c.args.word.now c.loop-index.entries.items c.push.new.self.items c.in_ok-text.text kept.low kept.entries c.in_ok-push.ensures.items c.in_ok-text.ensures.value;
    }

pub returns : goal.returns
returns c = record {
  value =
      let kept = c.loop-index.invariant in
      let first = c.args.first in
      let word = c.args.word.now in
      let counts : (n : ℕ) → n ≡ c.args.last + 1 - first → map (text_entry word) (range_with_len first n) ≡ text_entries first c.args.last word = λ n e. ap (λ k. map (text_entry word) (range_with_len first k)) e in
      elim c.loop-index-test.branch [
        | else-loop-index-test w ↦ ap (λ v. map indexed_bytes v.items) w.entries-is ∙ kept.entries ∙ counts (c.loop-index.index - first) (omega (arith, kept.low, kept.few, w.loop-index-test.false))
        | then-loop-index-test+in_ok-text+in_ok-push+else-index-last w ↦
            ap (λ v. map indexed_bytes v.items) w.entries-is ∙ entries_more first c.loop-index.index word c.loop-index.entries.items w.push.new.self.items w.in_ok-text.text kept.low kept.entries w.in_ok-push.ensures.items w.in_ok-text.ensures.value
            ∙ counts (c.loop-index.index + 1 - first) (omega (arith, kept.low, kept.few, w.loop-index-test.true))
      ];
}
