use Rattle.raft_files.proofs.ScanLemmas.{header_alone_is_read, appended_record_is_read}
use Rattle.raft_files.proofs.laws.appended_record_is_read.Goals as goal

pub returns-clause-header : goal.returns-clause-header
returns-clause-header c = header_alone_is_read

pub returns-clause-appended : goal.returns-clause-appended
returns-clause-appended c = appended_record_is_read
