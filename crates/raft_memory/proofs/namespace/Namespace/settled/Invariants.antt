use Rattle.std.proofs.Common.{◌≡◌}
use Rattle.raft_memory.specs.Files.{directory_of, folders_of}
use Rattle.raft_memory.specs.Settled.{settled_files, with_files}
use Rattle.raft_memory.proofs.namespace.Namespace.settled.Given as goal

abbrev pub invariant-loop-path : goal.invariant-loop-path
invariant-loop-path l = with_files l.path-iterator.rest.items (directory_of l.placed (folders_of l.folders.items)) ≡ settled_files l.fn.files.items l.folders.items
