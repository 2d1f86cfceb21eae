use Rattle.raft_index_laws.proofs.AgainLemmas.{all_again}
use Rattle.raft_index_laws.proofs.rewriting_laws.a_rewritten_batch_keeps_tables_standing.Goals as goal

pub returns : goal.returns
returns c = record { batch = all_again }
