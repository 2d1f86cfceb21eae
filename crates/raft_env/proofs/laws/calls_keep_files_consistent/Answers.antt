use Rattle.raft_env.proofs.ConsistentLemmas.{writing_consistent, allocating_consistent, truncating_consistent, syncing_consistent, creating_consistent, deleting_consistent, renaming_consistent, folders_consistent, restarted_consistent}
use Rattle.raft_env.proofs.laws.calls_keep_files_consistent.Goals as goal

pub returns-clause-writing : goal.returns-clause-writing
returns-clause-writing c = writing_consistent

pub returns-clause-allocating : goal.returns-clause-allocating
returns-clause-allocating c = allocating_consistent

pub returns-clause-truncating : goal.returns-clause-truncating
returns-clause-truncating c = truncating_consistent

pub returns-clause-syncing : goal.returns-clause-syncing
returns-clause-syncing c = syncing_consistent

pub returns-clause-creating : goal.returns-clause-creating
returns-clause-creating c = creating_consistent

pub returns-clause-deleting : goal.returns-clause-deleting
returns-clause-deleting c = deleting_consistent

pub returns-clause-renaming : goal.returns-clause-renaming
returns-clause-renaming c = renaming_consistent

pub returns-clause-folders : goal.returns-clause-folders
returns-clause-folders c = folders_consistent

pub returns-clause-restarted : goal.returns-clause-restarted
returns-clause-restarted c = restarted_consistent
