use Rattle.raft_c_log.proofs.JoinedLemmas.{covered_ended, leads_on}
use Rattle.raft_c_log.proofs.laws.what_a_sync_covers_stays.Goals as goal

pub returns-clause-covered : goal.returns-clause-covered
returns-clause-covered g c = λ change answer new asks ended. covered_ended change answer c.args.log.now.engine new asks ended

pub returns-clause-stays : goal.returns-clause-stays
returns-clause-stays g c = λ asked new calls. leads_on asked c.args.log.now.engine new calls
