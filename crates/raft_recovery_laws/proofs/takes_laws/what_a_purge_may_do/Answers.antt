use Rattle.raft_recovery_laws.proofs.TakesLemmas.{can_drop_front, can_drop_old, takes_unmarked}
use Rattle.raft_recovery_laws.proofs.TogetherLemmas.{together_group, together_unmarked}
use Rattle.raft_recovery_laws.proofs.takes_laws.what_a_purge_may_do.Goals as goal

pub returns-clause-takes : goal.returns-clause-takes
returns-clause-takes c = takes_unmarked

pub returns-clause-front : goal.returns-clause-front
returns-clause-front c = can_drop_front

pub returns-clause-old : goal.returns-clause-old
returns-clause-old c = can_drop_old

pub returns-clause-together : goal.returns-clause-together
returns-clause-together c = together_unmarked

pub returns-clause-group : goal.returns-clause-group
returns-clause-group c = together_group
