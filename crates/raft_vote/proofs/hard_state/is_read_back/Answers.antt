use Rattle.raft_vote.proofs.SaveLemmas.{read_back}
use Rattle.raft_vote.proofs.hard_state.is_read_back.Goals as goal

pub returns : goal.returns
returns c = read_back c.u64_round_trip.ensures.encoded c.args.state c.numbers_fit.ensures.0 c.numbers_fit.ensures.1
