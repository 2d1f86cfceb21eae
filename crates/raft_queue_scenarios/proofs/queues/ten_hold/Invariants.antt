use Rattle.raft_pipes.specs.Pipe.{IsPipeOf}
use Rattle.raft_queue_scenarios.proofs.queues.ten_hold.Given as goal

abbrev pub invariant-loop-nth : goal.invariant-loop-nth
invariant-loop-nth g l = IsPipeOf l.pipe (g.F.FileSystem.directory l.fs)
