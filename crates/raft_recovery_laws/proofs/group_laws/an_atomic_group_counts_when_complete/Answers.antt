use Rattle.raft_recovery_laws.proofs.GroupLemmas.{effect-open_group, effect-complete_group, effect-unmarked}
use Rattle.raft_recovery_laws.proofs.group_laws.an_atomic_group_counts_when_complete.Goals as goal

pub returns-clause-incomplete : goal.returns-clause-incomplete
returns-clause-incomplete c = effect-open_group

pub returns-clause-complete : goal.returns-clause-complete
returns-clause-complete c = effect-complete_group

pub returns-clause-unmarked : goal.returns-clause-unmarked
returns-clause-unmarked c = effect-unmarked
