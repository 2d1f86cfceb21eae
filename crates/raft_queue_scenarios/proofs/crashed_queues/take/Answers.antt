use Rattle.std.proofs.lemmas.Result.{on_ok_weaker}
use Rattle.raft_queue_scenarios.proofs.BothLemmas.{each_stands, stand_still, stand_synced}
use Rattle.raft_queue_scenarios.proofs.crashed_queues.take.Goals as goal

pub sync-requires-after_bounds : goal.sync-requires-after_bounds
sync-requires-after_bounds g c _ _ = each_stands c.in-Sync.queue c.args.pipes.now (g.F.FileSystem.directory c.args.fs.now) c.requires

pub rotate_if_full-requires-after_bounds : goal.rotate_if_full-requires-after_bounds
rotate_if_full-requires-after_bounds g c _ _ = each_stands c.in-Rotate.queue c.args.pipes.now (g.F.FileSystem.directory c.args.fs.now) c.requires

pub returns-in-Sync : goal.returns-in-Sync
returns-in-Sync g c =
    let old = g.F.FileSystem.directory c.args.fs.now in
    let new = g.F.FileSystem.directory c.sync.new.file_system in
    record { stands = on_ok_weaker c.sync.result (λ synced. stand_synced c.in-Sync.queue c.args.pipes.now c.sync.new.self old new synced c.requires) c.sync.ensures.ok }

pub returns-in-Ok : goal.returns-in-Ok
returns-in-Ok g c =
    let old = g.F.FileSystem.directory c.args.fs.now in
    let new = g.F.FileSystem.directory c.rotate_if_full.new.file_system in
    record { stands = stand_still c.args.pipes.now c.rotate_if_full.new.self old new c.in-Ok.ensures.ok c.requires }
