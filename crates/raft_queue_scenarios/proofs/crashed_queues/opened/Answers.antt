use Rattle.raft_queue_scenarios.proofs.BothLemmas.{stand_opened}
use Rattle.raft_queue_scenarios.proofs.crashed_queues.opened.Goals as goal

pub returns-in-Ok : goal.returns-in-Ok
returns-in-Ok g c = record { stands = stand_opened c.in-Ok.pipes (g.F.FileSystem.directory c.in-Ok.fs) _ _ _ c.in-Ok.ensures.ok }
