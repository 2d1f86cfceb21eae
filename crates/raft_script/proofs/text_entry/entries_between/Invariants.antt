use Rattle.std.proofs.Common.{◌≡◌, ◌≤◌, ◌+◌, ◌-◌, map}
use Rattle.std.specs.List.{range_with_len}
use Rattle.raft_script.specs.Entry.{text_entry}
use Rattle.raft_script.specs.Batches.{indexed_bytes}
use Rattle.raft_script.proofs.text_entry.entries_between.Given as goal

abbrev pub invariant-loop-index : goal.invariant-loop-index
invariant-loop-index l = record {
  low : l.first ≤ l.index;
  few : l.index - l.first ≤ l.last + 1 - l.first;
  entries : map indexed_bytes l.entries.items ≡ map (text_entry l.word) (range_with_len l.first (l.index - l.first));
}
