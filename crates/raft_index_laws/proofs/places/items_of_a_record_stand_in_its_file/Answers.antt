use Rattle.raft_index_laws.proofs.PlacedLemmas.{items_in_file, items_rewritten}
use Rattle.raft_index_laws.proofs.places.items_of_a_record_stand_in_its_file.Goals as goal

pub returns-clause-in_file : goal.returns-clause-in_file
returns-clause-in_file c = items_in_file

pub returns-clause-rewritten : goal.returns-clause-rewritten
returns-clause-rewritten c = items_rewritten
