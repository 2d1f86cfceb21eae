use Rattle.raft_files.proofs.RecordsLogLemmas.{log_appending}
use Rattle.raft_files.proofs.RecordsCrashLemmas.{kept_left, log_kept, torn_log_kept, log_closing_kept, torn_log_closing_kept, kept_syncing, kept_restarted, kept_none, kept_more, kept_beside}
use Rattle.raft_files.proofs.laws.crash_of_a_file_leaves_a_prefix.Goals as goal

pub returns-clause-left : goal.returns-clause-left
returns-clause-left c = λ path id batches synced n kept d leaves. kept_left path id batches synced n kept d

pub returns-clause-between : goal.returns-clause-between
returns-clause-between c = log_kept

pub returns-clause-refused : goal.returns-clause-refused
returns-clause-refused c = torn_log_kept

pub returns-clause-appending : goal.returns-clause-appending
returns-clause-appending c = λ path id format batches synced at old n room new_room given batch log is change.
    torn_log_kept path id format batches _ synced at n (log_appending path old n id format batches synced at log room new_room given batch is change)

pub returns-clause-syncing : goal.returns-clause-syncing
returns-clause-syncing c = λ path id batches synced old n kept change. kept_syncing path id batches synced old n change kept

pub returns-clause-closing : goal.returns-clause-closing
returns-clause-closing c = λ path id format batches synced at old n log change. log_closing_kept path old n id format batches synced at log change

pub returns-clause-torn_closing : goal.returns-clause-torn_closing
returns-clause-torn_closing c = λ path id format batches in_flight synced at old n log change. torn_log_closing_kept path old n id format batches synced at in_flight log change

pub returns-clause-restarted : goal.returns-clause-restarted
returns-clause-restarted c = kept_restarted

pub returns-clause-none : goal.returns-clause-none
returns-clause-none c = kept_none

pub returns-clause-more : goal.returns-clause-more
returns-clause-more c = kept_more

pub returns-clause-beside : goal.returns-clause-beside
returns-clause-beside c = λ path id batches synced old n same kept. kept_beside path id batches synced old n same kept
