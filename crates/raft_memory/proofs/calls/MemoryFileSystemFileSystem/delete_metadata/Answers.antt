use Rattle.std.proofs.Common.{false}
use Rattle.raft_memory.proofs.SetAtLemmas.{contains_text-elsewhere}
use Rattle.raft_memory.proofs.calls.MemoryFileSystemFileSystem.delete_metadata.Goals as goal

pub returns-clause-ok : goal.returns-clause-ok
returns-clause-ok c = c.remove.ensures.updates.1

pub returns-clause-others : goal.returns-clause-others
returns-clause-others c = λ q other. contains_text-elsewhere c.args.self.now.metadata c.remove.new.self c.args.path.now q false c.remove.ensures.updates other
