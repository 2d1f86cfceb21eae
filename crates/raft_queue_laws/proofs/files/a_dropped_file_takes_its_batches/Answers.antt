use Rattle.raft_pipes.proofs.StepsLemmas.{queue_dropped}
use Rattle.raft_queue_laws.proofs.files.a_dropped_file_takes_its_batches.Goals as goal

pub returns : goal.returns
returns c = queue_dropped
