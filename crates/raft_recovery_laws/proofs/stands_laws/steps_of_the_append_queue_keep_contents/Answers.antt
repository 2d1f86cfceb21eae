use Rattle.raft_recovery_laws.proofs.StandsLemmas.{stands_written, stands_cut, stands_appended_synced, stands_front_dropped, stands_older_gone}
use Rattle.raft_recovery_laws.proofs.stands_laws.steps_of_the_append_queue_keep_contents.Goals as goal

pub returns-clause-written : goal.returns-clause-written
returns-clause-written c = stands_written

pub returns-clause-truncated : goal.returns-clause-truncated
returns-clause-truncated c = stands_cut

pub returns-clause-synced : goal.returns-clause-synced
returns-clause-synced c = stands_appended_synced

pub returns-clause-dropped : goal.returns-clause-dropped
returns-clause-dropped c = stands_front_dropped

pub returns-clause-gone : goal.returns-clause-gone
returns-clause-gone c = stands_older_gone
