use Rattle.raft_index_laws.proofs.AtomicStepLemmas.{ended_takes, opened}
use Rattle.raft_index_laws.proofs.MovedGroupLemmas.{ended}
use Rattle.raft_index_laws.proofs.groups.an_atomic_group_may_be_written.Goals as goal

pub returns-clause-open : goal.returns-clause-open
returns-clause-open c = opened

pub returns-clause-takes : goal.returns-clause-takes
returns-clause-takes c = ended_takes

pub returns-clause-ended : goal.returns-clause-ended
returns-clause-ended c = ended
