use Rattle.std.proofs.Common.{◌≡◌, ℕ, length, map, take}
use Rattle.std.specs.Prelude.{Vec}
use Rattle.std.specs.declared.alloc.Global.{Global}
use Rattle.raft_records.specs.Batch.{raw_entries}
use Rattle.raft_script.specs.Batches.{indexed_bytes}
use Rattle.raft_script.proofs.runs.split_entries.Given as goal

abbrev pub invariant-loop-entry : goal.invariant-loop-entry
invariant-loop-entry l = record {
  len : length l.indexes.items ≡ length l.copies.items;
  split : raw_entries l.indexes.items (map (λ (bytes : Vec ℕ Global). bytes.items) l.copies.items) ≡ map indexed_bytes (take l.entry-index l.entries);
}
