use Rattle.raft_index_laws.proofs.NewFileLemmas.{new_ended, new_opened, new_written, rotated}
use Rattle.raft_index_laws.proofs.new_files.new_files_hold_what_was_written.Goals as goal

pub returns-clause-rotated : goal.returns-clause-rotated
returns-clause-rotated c = rotated

pub returns-clause-written : goal.returns-clause-written
returns-clause-written c = new_written

pub returns-clause-open : goal.returns-clause-open
returns-clause-open c = new_opened

pub returns-clause-ended : goal.returns-clause-ended
returns-clause-ended c = new_ended
