use Rattle.raft_recovery_laws.proofs.ExactLemmas.{cleaned_is_set_by_append, compacted_is_above, deleted_is_none, put_is_there}
use Rattle.raft_recovery_laws.proofs.rewrite_laws.what_changes_nothing_meets_its_premise.Goals as goal

pub returns-clause-deleted : goal.returns-clause-deleted
returns-clause-deleted c = deleted_is_none

pub returns-clause-compacted : goal.returns-clause-compacted
returns-clause-compacted c = compacted_is_above

pub returns-clause-cleaned : goal.returns-clause-cleaned
returns-clause-cleaned c = cleaned_is_set_by_append

pub returns-clause-key : goal.returns-clause-key
returns-clause-key c = put_is_there
