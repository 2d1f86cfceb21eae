use Rattle.raft_index_laws.proofs.RewrittenLemmas.{entries_rewritten}
use Rattle.raft_index_laws.proofs.MarkedLemmas.{value_rewritten}
use Rattle.raft_index_laws.proofs.rewriting_laws.rewriting_keeps_tables_standing.Goals as goal

pub returns : goal.returns
returns c = record { entries = entries_rewritten; value = value_rewritten }
