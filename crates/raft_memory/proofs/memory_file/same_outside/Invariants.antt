use Rattle.std.proofs.Common.{◌≡◌, ◌<◌, ℕ, length, false, get_or}
use Rattle.raft_memory.specs.MemoryFile.{is_covered}
use Rattle.raft_memory.proofs.memory_file.same_outside.Given as goal

abbrev pub invariant-loop-i : goal.invariant-loop-i
invariant-loop-i l = (k : ℕ) → k < l.i → k < length l.synced → is_covered l.ranges k ≡ false → get_or l.bytes k 0 ≡ get_or l.synced k 0
