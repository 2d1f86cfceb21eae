use Rattle.raft_env.specs.Moments.{OnlyReads}
use Rattle.raft_inspect.proofs.usage.replay_all.Given as goal

abbrev pub invariant-appended : goal.invariant-appended
invariant-appended g l = OnlyReads g.F.FileSystem.directory g.F.FileSystem.moments g.F.FileSystem.refusals_of l.fn.file_system l.file_system
