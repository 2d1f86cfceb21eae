use Rattle.raft_env.specs.Moments.{OnlyReads}
use Rattle.raft_inspect.proofs.usage.BatchReader.batch_from.Given as goal

abbrev pub invariant-items : goal.invariant-items
invariant-items g l = OnlyReads g.F.FileSystem.directory g.F.FileSystem.moments g.F.FileSystem.refusals_of l.fn.file_system l.file_system
