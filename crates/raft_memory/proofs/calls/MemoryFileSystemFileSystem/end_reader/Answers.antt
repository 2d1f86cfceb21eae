use Rattle.std.proofs.Common.{refl}
use Rattle.raft_memory.proofs.calls.MemoryFileSystemFileSystem.end_reader.Goals as goal

pub returns-clause-unchanged : goal.returns-clause-unchanged
returns-clause-unchanged c = record { same_files = refl; same_moments = refl; no_fewer = c.add.ensures.counts }
