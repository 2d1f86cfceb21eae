use Rattle.raft_index_laws.proofs.NotedLemmas.{valid_noted}
use Rattle.raft_index_laws.proofs.laws.a_valid_batch_notes_its_marks.Goals as goal

pub returns : goal.returns
returns c = record { noted = valid_noted }
