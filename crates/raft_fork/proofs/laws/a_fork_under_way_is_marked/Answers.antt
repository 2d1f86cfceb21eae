use Rattle.raft_fork.proofs.ForkLemmas.{is_marked}
use Rattle.raft_fork.proofs.laws.a_fork_under_way_is_marked.Goals as goal

pub returns : goal.returns
returns c = is_marked
