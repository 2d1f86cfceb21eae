use Rattle.raft_c_batch.proofs.WrittenLemmas.{batch_read}
use Rattle.raft_c_batch.proofs.ReadLemmas.{batch_written}
use Rattle.raft_c_batch.proofs.laws.batch_round_trip.Goals as goal

pub returns : goal.returns
returns c = record { encoded = batch_read; decoded = batch_written }
