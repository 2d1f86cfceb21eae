use Rattle.raft_pipes.specs.Pipe.{IsRecordOf}
use Rattle.raft_queues.specs.Dual.{pipe_of}
use Rattle.raft_queue_scenarios.proofs.BothLemmas.{each_stands, signed_record, stand_appended}
use Rattle.raft_queue_scenarios.proofs.crashed_queues.put.Goals as goal

pub append-requires-after_bounds : goal.append-requires-after_bounds
append-requires-after_bounds g c _ _ = each_stands c.args.queue c.args.pipes.now (g.F.FileSystem.directory c.args.fs.now) c.requires

pub returns-in-Ok : goal.returns-in-Ok
returns-in-Ok g c =
    let batch = c.put.new.self in
    let populates = c.in_ok-finish_populate.ensures in
    let record_is : IsRecordOf (pipe_of c.args.queue c.args.pipes.now) c.encoded_bytes.result.now batch.items =
    signed_record (pipe_of c.args.queue c.args.pipes.now) c.context.result c.encoded_bytes.result.now batch c.finish_populate.new.self c.prepare_write.new.self populates.ok c.prepare_write.ensures.value c.encoded_bytes.ensures.value
    populates.fits c.prepare_write.ensures.readable populates.within c.context.ensures.value in
    record {
      stands = stand_appended c.args.queue c.args.sync c.args.pipes.now c.append.new.self c.encoded_bytes.result.now batch.items (g.F.FileSystem.directory c.args.fs.now) (g.F.FileSystem.directory c.append.new.file_system) c.in-Ok.ensures.ok record_is c.requires;
    }
