use Rattle.raft_index_laws.proofs.QueueLemmas.{queue_rewritten_synced, queue_synced, queue_written}
use Rattle.raft_index_laws.proofs.steps.writes_and_syncs_keep_tables_standing.Goals as goal

pub returns-clause-written : goal.returns-clause-written
returns-clause-written c = queue_written

pub returns-clause-synced : goal.returns-clause-synced
returns-clause-synced c = queue_synced

pub returns-clause-rewritten_synced : goal.returns-clause-rewritten_synced
returns-clause-rewritten_synced c = queue_rewritten_synced
