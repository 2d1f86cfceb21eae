use Rattle.raft_queue_scenarios.proofs.BothLemmas.{each_stands, stand_dropped}
use Rattle.raft_queue_scenarios.proofs.crashed_queues.purge.Goals as goal

pub purge_to-requires-after_bounds : goal.purge_to-requires-after_bounds
purge_to-requires-after_bounds g c _ _ = each_stands c.args.queue c.args.pipes.now (g.F.FileSystem.directory c.args.fs.now) c.requires

pub returns-in-Ok : goal.returns-in-Ok
returns-in-Ok g c =
    let old = g.F.FileSystem.directory c.args.fs.now in
    let new = g.F.FileSystem.directory c.purge_to.new.file_system in
    record { stands = stand_dropped c.args.queue c.args.seq c.in-Ok._count c.args.pipes.now c.purge_to.new.self old new c.in-Ok.ensures.ok c.requires }
