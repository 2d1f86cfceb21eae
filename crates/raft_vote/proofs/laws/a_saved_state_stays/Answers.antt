use Rattle.raft_vote.proofs.StaysLemmas.{saved_states_stay}
use Rattle.raft_vote.proofs.laws.a_saved_state_stays.Goals as goal

pub returns : goal.returns
returns g c = saved_states_stay g.F.FileSystem c.what_calls_keep_is_found.ensures.nodes c.what_calls_keep_is_found.ensures.synced
