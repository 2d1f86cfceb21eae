use Rattle.std.proofs.Common.{◌≡◌, ◌-◌, ◌≤◌, map, length}
use Rattle.std.specs.List.{range_with_len}
use Rattle.raft_memory.specs.MemoryFile.{is_covered}
use Rattle.raft_memory.specs.Choice.{torn_byte, touched_before}
use Rattle.raft_memory.proofs.memory_file.torn_bytes.Given as goal

abbrev pub invariant-loop-i : goal.invariant-loop-i
invariant-loop-i l = record {
  in_range : l.i ≤ length l.now;
  bytes : l.bytes.items ≡ map (torn_byte (is_covered l.ranges) l.kept l.fill l.now) (range_with_len 0 l.i);
  left : l.left ≡ l.kept - touched_before (is_covered l.ranges) l.i;
}
