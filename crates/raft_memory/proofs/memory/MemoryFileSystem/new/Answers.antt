use Rattle.raft_memory.proofs.MemoryInvariantLemmas.{invariant-no_files}
use Rattle.raft_memory.proofs.memory.MemoryFileSystem.new.Goals as goal

pub invariant_of-result : goal.invariant_of-result
invariant_of-result c = invariant-no_files _ c.new.ensures.value
