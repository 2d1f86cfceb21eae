use Rattle.raft_files.proofs.CompletedLemmas.{log_of_completed, completed_log_begun, completed_log_found, completed_restarted, completed_cut, completed_log_appended, completed_log_appending, completed_records_cutting, completed_log_undone, completed_log_synced, completed_log_closed}
use Rattle.raft_files.proofs.completed_laws.failed_calls_add_no_record.Goals as goal

pub returns-clause-log : goal.returns-clause-log
returns-clause-log c = log_of_completed

pub returns-clause-begun : goal.returns-clause-begun
returns-clause-begun c = completed_log_begun

pub returns-clause-restarted : goal.returns-clause-restarted
returns-clause-restarted c = completed_restarted

pub returns-clause-cut : goal.returns-clause-cut
returns-clause-cut c = completed_cut

pub returns-clause-found : goal.returns-clause-found
returns-clause-found c = completed_log_found

pub returns-clause-appended : goal.returns-clause-appended
returns-clause-appended c = λ path id format batches synced at old new room new_room given batch log is change refused.
    completed_log_appended path id format batches synced at old log new room new_room given batch is change refused

pub returns-clause-appending : goal.returns-clause-appending
returns-clause-appending c = λ path id format batches synced at old n room new_room given batch log is change.
    completed_log_appending path id format batches synced at old log n room new_room given batch is change

pub returns-clause-cutting : goal.returns-clause-cutting
returns-clause-cutting c = completed_records_cutting

pub returns-clause-undone : goal.returns-clause-undone
returns-clause-undone c = λ path id format batches synced at old mid new room new_room given batch log is first change refused.
    completed_log_undone path id format batches synced at old log mid new room new_room given batch is first change refused

pub returns-clause-durable : goal.returns-clause-durable
returns-clause-durable c = λ path id format batches synced at old new log change. completed_log_synced path id format batches synced at old log new change

pub returns-clause-closed : goal.returns-clause-closed
returns-clause-closed c = λ path id format batches synced at old new log change. completed_log_closed path id format batches synced at old log new change
