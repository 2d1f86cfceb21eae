use Rattle.raft_index_laws.proofs.GatherLemmas.{gathered_more}
use Rattle.raft_index_laws.proofs.ValueLemmas.{values_gathered}
use Rattle.raft_index_laws.proofs.gathering.items_are_gathered_one_by_one.Goals as goal

pub returns-clause-none : goal.returns-clause-none
returns-clause-none c = λ watermark owed t. record { each = tt; apart = tt }

pub returns-clause-more : goal.returns-clause-more
returns-clause-more c = gathered_more

pub returns-clause-other_group : goal.returns-clause-other_group
returns-clause-other_group c = λ item other no same key. no same

pub returns-clause-other_key : goal.returns-clause-other_key
returns-clause-other_key c = λ item other no same key. no key

pub returns-clause-values : goal.returns-clause-values
returns-clause-values c = values_gathered
