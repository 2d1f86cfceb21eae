use Rattle.raft_vote.proofs.StaysLemmas.{nodes_vote_once}
use Rattle.raft_vote.proofs.laws.a_node_votes_once.Goals as goal

pub returns : goal.returns
returns g c = nodes_vote_once g.F.FileSystem
