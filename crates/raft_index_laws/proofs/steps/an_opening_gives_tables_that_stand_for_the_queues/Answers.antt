use Rattle.raft_index_laws.proofs.QueueLemmas.{opened}
use Rattle.raft_index_laws.proofs.ReadLemmas.{batches_low}
use Rattle.raft_index_laws.proofs.steps.an_opening_gives_tables_that_stand_for_the_queues.Goals as goal

pub returns-clause-opened : goal.returns-clause-opened
returns-clause-opened c = opened

pub returns-clause-below : goal.returns-clause-below
returns-clause-below c = batches_low
