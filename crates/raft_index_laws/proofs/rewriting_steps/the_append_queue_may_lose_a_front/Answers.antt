use Rattle.raft_index_laws.proofs.StepLemmas.{front_can, front_lost}
use Rattle.raft_index_laws.proofs.rewriting_steps.the_append_queue_may_lose_a_front.Goals as goal

pub returns-clause-can : goal.returns-clause-can
returns-clause-can c = front_can

pub returns-clause-gone : goal.returns-clause-gone
returns-clause-gone c = front_lost
