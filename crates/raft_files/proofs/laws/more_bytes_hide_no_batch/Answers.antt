use Rattle.raft_files.proofs.ScanLemmas.{more_bytes_hide_no_batch}
use Rattle.raft_files.proofs.laws.more_bytes_hide_no_batch.Goals as goal

pub returns : goal.returns
returns c = record { value = more_bytes_hide_no_batch }
