use Rattle.raft_purge.proofs.HeldStillLemmas.{held_after}
use Rattle.raft_purge.proofs.UnderWayLemmas.{beside_under_way, still_under_way, under_way_goes, under_way_renewed}
use Rattle.raft_purge.proofs.under_way.a_rewriting_goes_on_in_later_calls.Goals as goal

pub returns-clause-goes : goal.returns-clause-goes
returns-clause-goes c = under_way_goes

pub returns-clause-renewed : goal.returns-clause-renewed
returns-clause-renewed c = λ first bound d t owed met n v u. under_way_renewed first bound d t owed met n v u

pub returns-clause-still : goal.returns-clause-still
returns-clause-still c = λ d t owed met r n v goes behind held. still_under_way d t owed met r n v goes behind held

pub returns-clause-beside : goal.returns-clause-beside
returns-clause-beside c = beside_under_way

pub returns-clause-appended : goal.returns-clause-appended
returns-clause-appended c = λ blocks first seq x. held_after blocks first seq x
