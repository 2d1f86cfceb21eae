use Rattle.raft_index_laws.proofs.KnownLemmas.{moved_known, moved_places}
use Rattle.raft_index_laws.proofs.rewriting_laws.moved_tables_know_the_same_groups.Goals as goal

pub returns : goal.returns
returns c = record { known = moved_known; places = moved_places }
