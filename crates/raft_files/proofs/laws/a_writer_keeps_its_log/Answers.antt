use Rattle.raft_files.proofs.RecordsLogLemmas.{log_begun, log_appended, log_appending, log_synced, log_closed, torn_log_closed, log_beside}
use Rattle.raft_files.proofs.laws.a_writer_keeps_its_log.Goals as goal

pub returns-clause-begun : goal.returns-clause-begun
returns-clause-begun c = λ path id format old new has fits is change. log_begun path old new id format has fits is change

pub returns-clause-appended : goal.returns-clause-appended
returns-clause-appended c = λ path id format batches synced at old new room new_room given batch log is change.
    log_appended path old new id format batches synced at log room new_room given batch is change

pub returns-clause-durable : goal.returns-clause-durable
returns-clause-durable c = λ path id format batches synced at old new log change. log_synced path old new id format batches synced at log change

pub returns-clause-closed : goal.returns-clause-closed
returns-clause-closed c = λ path id format batches synced at old new log change. log_closed path old new id format batches synced at log change

pub returns-clause-torn : goal.returns-clause-torn
returns-clause-torn c = λ path id format batches synced at old n room new_room given batch log is change.
    log_appending path old n id format batches synced at log room new_room given batch is change

pub returns-clause-torn_closed : goal.returns-clause-torn_closed
returns-clause-torn_closed c = λ path id format batches in_flight synced at old new log change. torn_log_closed path old new id format batches in_flight synced at log change

pub returns-clause-beside : goal.returns-clause-beside
returns-clause-beside c = log_beside
