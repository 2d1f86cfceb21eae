use Rattle.raft_pipes.specs.Pipe.{IsPipeOf}
use Rattle.raft_queue_scenarios.proofs.queues.all_hold.Given as goal

abbrev pub invariant-loop-step : goal.invariant-loop-step
invariant-loop-step g l = IsPipeOf l.pipe (g.F.FileSystem.directory l.fs)
