use Rattle.raft_memory.proofs.SettledLemmas.{invariant-settled}
use Rattle.raft_memory.proofs.memory.MemoryFileSystem.settled.Goals as goal

pub invariant_of-result : goal.invariant_of-result
invariant_of-result c = invariant-settled c.args.files.items c.args.folders.items _ c.in_ok-settled.ensures.value
