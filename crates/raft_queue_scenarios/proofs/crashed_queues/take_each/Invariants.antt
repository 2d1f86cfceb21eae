use Rattle.raft_queues.specs.Dual.{StandSideBySide}
use Rattle.raft_queue_scenarios.proofs.crashed_queues.take_each.Given as goal

abbrev pub invariant-loop-step : goal.invariant-loop-step
invariant-loop-step g l = StandSideBySide l.pipes (g.F.FileSystem.directory l.fs)
