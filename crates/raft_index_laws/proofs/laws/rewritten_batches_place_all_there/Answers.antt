use Rattle.raft_index_laws.proofs.WholeLemmas.{whole_rewritten}
use Rattle.raft_index_laws.proofs.laws.rewritten_batches_place_all_there.Goals as goal

pub returns : goal.returns
returns c = record { whole = whole_rewritten }
