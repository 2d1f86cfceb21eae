use Rattle.raft_recovery_laws.proofs.GroupLemmas.{no_first_is_incomplete, no_last_is_incomplete}
use Rattle.raft_recovery_laws.proofs.group_laws.a_group_without_an_end_is_incomplete.Goals as goal

pub returns-clause-no_last : goal.returns-clause-no_last
returns-clause-no_last c = no_last_is_incomplete

pub returns-clause-no_first : goal.returns-clause-no_first
returns-clause-no_first c = no_first_is_incomplete
