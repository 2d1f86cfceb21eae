use Rattle.raft_env.specs.Moments.{OnlyReads}
use Rattle.raft_inspect.proofs.usage.rewritten_of.Given as goal

abbrev pub invariant-rewritten : goal.invariant-rewritten
invariant-rewritten g l = OnlyReads g.F.FileSystem.directory g.F.FileSystem.moments g.F.FileSystem.refusals_of l.fn.file_system l.file_system
