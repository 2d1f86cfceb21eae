use Rattle.raft_index_laws.proofs.FetchedLemmas.{fetched}
use Rattle.raft_index_laws.proofs.GatherLemmas.{beginning, left}
use Rattle.raft_index_laws.proofs.MatchLemmas.{group_left}
use Rattle.raft_index_laws.proofs.gathering.entries_are_fetched_to_be_written.Goals as goal

pub returns-clause-fetched : goal.returns-clause-fetched
returns-clause-fetched c = fetched

pub returns-clause-beginning : goal.returns-clause-beginning
returns-clause-beginning c = beginning

pub returns-clause-left : goal.returns-clause-left
returns-clause-left c = left

pub returns-clause-elsewhere : goal.returns-clause-elsewhere
returns-clause-elsewhere c = group_left
