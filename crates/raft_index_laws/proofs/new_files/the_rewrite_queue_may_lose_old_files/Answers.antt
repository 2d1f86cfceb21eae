use Rattle.raft_index_laws.proofs.NewFileLemmas.{old_can, old_lost}
use Rattle.raft_index_laws.proofs.new_files.the_rewrite_queue_may_lose_old_files.Goals as goal

pub returns-clause-can : goal.returns-clause-can
returns-clause-can c = old_can

pub returns-clause-gone : goal.returns-clause-gone
returns-clause-gone c = old_lost
