use Rattle.raft_index_laws.proofs.TotalLemmas.{written as batch_written}
use Rattle.raft_index_laws.proofs.laws.a_write_keeps_tables_standing.Goals as goal

pub returns : goal.returns
returns c = record { written = batch_written }
