use Rattle.raft_once.proofs.HistoryLemmas.{acts_once, never_falls, old_once_acted}
use Rattle.raft_once.proofs.laws.a_number_acts_once.Goals as goal

pub returns : goal.returns
returns c = record { once = acts_once; kept = never_falls; old = old_once_acted }
