use Rattle.raft_index_laws.proofs.GroupIdLemmas.{begun, group_ids, group_together, ids_fewer, ids_read, ids_unmarked, together_fewer}
use Rattle.raft_index_laws.proofs.groups.ids_and_groups_of_the_rewrite_queue.Goals as goal

pub returns-clause-begun : goal.returns-clause-begun
returns-clause-begun c = begun

pub returns-clause-unmarked : goal.returns-clause-unmarked
returns-clause-unmarked c = ids_unmarked

pub returns-clause-group : goal.returns-clause-group
returns-clause-group c = λ id batches bodies last below together. (group_ids id batches bodies last below, group_together id batches bodies last below together)

pub returns-clause-fewer : goal.returns-clause-fewer
returns-clause-fewer c = λ bound front batches below together. (ids_fewer bound front batches below, together_fewer front batches together)

pub returns-clause-read : goal.returns-clause-read
returns-clause-read c = ids_read
