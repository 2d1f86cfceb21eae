use Rattle.raft_queue_laws.proofs.QueueDamageLemmas.{queue_torn, queue_whole}
use Rattle.raft_queue_laws.proofs.damage.damage_of_a_queue_is_detectable.Goals as goal

pub returns : goal.returns
returns c = record {
  detectable = λ queue p folders batches counts n has completed past none. queue_whole queue p folders batches counts n has none completed past;
  first_records = λ queue p folders batches counts n has completed past none. queue_torn queue p folders batches counts n has none completed past;
}
