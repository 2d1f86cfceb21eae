use Rattle.raft_index_laws.proofs.KnownGatheredLemmas.{ended_known, gathered_known, open_known}
use Rattle.raft_index_laws.proofs.known.groups_that_are_written_again_are_known.Goals as goal

pub returns-clause-gathered : goal.returns-clause-gathered
returns-clause-gathered c = gathered_known

pub returns-clause-open : goal.returns-clause-open
returns-clause-open c = open_known

pub returns-clause-ended : goal.returns-clause-ended
returns-clause-ended c = ended_known
