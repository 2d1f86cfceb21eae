use Rattle.std.proofs.Common.{◌≡◌, ◌++◌, map, length}
use Rattle.std.specs.Map.Iter.{deref_pair}
use Rattle.raft_memory.specs.Choice.{left_by}
use Rattle.raft_memory.specs.Crashed.{Copied, IsLeft}
use Rattle.raft_memory.specs.declared.crash.Choice.TheVariants as choice
use Rattle.raft_memory.specs.Files.{namespace_directory}
use Rattle.raft_memory.proofs.namespace.Namespace.crashed.Given as goal

abbrev pub invariant-loop-path : goal.invariant-loop-path
invariant-loop-path l = record {
  whole : map deref_pair l.yielded ++ l.path-iterator ≡ l.self.files.entries;
  count : l.turn ≡ length l.yielded;
  left_over : l.synced ≡ choice.Synced;
  copied : Copied (IsLeft (left_by l.choices (namespace_directory l.self))) (map deref_pair l.yielded) l.files;
}
