use Rattle.std.proofs.Common.{◌≡◌, ◌++◌, map, take}
use Rattle.raft_c_batch.specs.Batch.{entries_bytes, stored_of}
use Rattle.raft_c_batch.proofs.parts.push_entries.Given as goal

abbrev pub invariant-loop-entry : goal.invariant-loop-entry
invariant-loop-entry l = l.bytes.items ≡ l.fn.bytes.items ++ entries_bytes (map stored_of (take l.entry-index l.entries))
