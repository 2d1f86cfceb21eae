use Rattle.std.proofs.Common.{ap, sym, ◌∙◌}
use Rattle.std.specs.Prelude.{is_some}
use Rattle.raft_memory.proofs.MemoryLemmas.{file_at-namespace_directory}
use Rattle.raft_memory.proofs.calls.MemoryFileSystemFileSystem.is_file.Goals as goal

pub returns : goal.returns
returns c = record { value = c.contains_key.ensures ∙ ap is_some (sym (file_at-namespace_directory c.args.self.now.namespace c.args.path.now)) }
