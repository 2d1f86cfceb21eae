use Rattle.raft_recovery_laws.proofs.MarkLemmas.{deleted_changes_nothing}
use Rattle.raft_recovery_laws.proofs.UnchangedLemmas.{clean_changes_nothing, compaction_changes_nothing}
use Rattle.raft_recovery_laws.proofs.rewrite_laws.marks_change_nothing.Goals as goal

pub returns-clause-deleted : goal.returns-clause-deleted
returns-clause-deleted c = deleted_changes_nothing

pub returns-clause-compacted : goal.returns-clause-compacted
returns-clause-compacted c = compaction_changes_nothing

pub returns-clause-cleaned : goal.returns-clause-cleaned
returns-clause-cleaned c = clean_changes_nothing
