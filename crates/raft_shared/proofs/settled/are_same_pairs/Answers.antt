use Rattle.raft_shared.proofs.PairLemmas.{same_pairs}
use Rattle.raft_shared.proofs.settled.are_same_pairs.Goals as goal

pub returns : goal.returns
returns c = record { value = same_pairs c.args.a.now c.args.b.now c.eq.result c.eq.ensures }
