use Rattle.raft_opening.proofs.RestartLemmas.{keeps_none, queue_restarted}
use Rattle.raft_queue_laws.proofs.files.what_a_crash_left_of_a_queue_stays.Goals as goal

pub returns-clause-restarted : goal.returns-clause-restarted
returns-clause-restarted c = queue_restarted

pub returns-clause-none : goal.returns-clause-none
returns-clause-none c = keeps_none
