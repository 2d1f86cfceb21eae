use Rattle.raft_index_laws.proofs.QueueLemmas.{queue_alike, queue_unowed}
use Rattle.raft_index_laws.proofs.steps.tables_stand_without_what_they_do_not_need.Goals as goal

pub returns-clause-other_blocks : goal.returns-clause-other_blocks
returns-clause-other_blocks c = queue_alike

pub returns-clause-unowed : goal.returns-clause-unowed
returns-clause-unowed c = queue_unowed
