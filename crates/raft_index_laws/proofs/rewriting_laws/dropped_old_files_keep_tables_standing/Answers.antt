use Rattle.raft_index_laws.proofs.DropOldLemmas.{old_gone, old_may_go}
use Rattle.raft_index_laws.proofs.rewriting_laws.dropped_old_files_keep_tables_standing.Goals as goal

pub returns : goal.returns
returns c = record { held = old_may_go; gone = old_gone }
