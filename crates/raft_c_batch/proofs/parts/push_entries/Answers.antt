use Rattle.std.proofs.Common.{map, take, append_assoc}
use Rattle.raft_c_batch.specs.Batch.{entries_bytes, part_bytes, stored_of}
use Rattle.raft_c_batch.proofs.PartLemmas.{entries_more}
use Rattle.raft_c_batch.proofs.parts.push_entries.Goals as goal

pub loop-entry-preserved : goal.loop-entry-preserved
loop-entry-preserved c =
    let at = c.loop-entry.entry-index in
    let before = entries_bytes (map stored_of (take at c.args.entries.now)) in
    rw (c.in_ok-push_part.ensures.ok, c.bytes.ensures.value, c.loop-entry.invariant, entries_more c.args.entries.now at c.entry-item.result c.loop-entry-test.true c.entry-item.is)
    (append_assoc c.args.bytes.now.items before (part_bytes c.entry-item.result.bytes.items))
