use Rattle.raft_index_laws.proofs.MarkedLemmas.{clean_marked, compaction_marked, delete_marked}
use Rattle.raft_index_laws.proofs.rewriting_laws.marks_keep_tables_standing.Goals as goal

pub returns : goal.returns
returns c = record { deleted = delete_marked; compacted = compaction_marked; cleaned = clean_marked }
