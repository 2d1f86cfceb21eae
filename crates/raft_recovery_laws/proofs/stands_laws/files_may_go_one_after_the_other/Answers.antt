use Rattle.raft_recovery_laws.proofs.StandsLemmas.{stands_first_gone, stands_rewrite_first_gone, stands_standing}
use Rattle.raft_recovery_laws.proofs.stands_laws.files_may_go_one_after_the_other.Goals as goal

pub returns-clause-standing : goal.returns-clause-standing
returns-clause-standing c = stands_standing

pub returns-clause-front : goal.returns-clause-front
returns-clause-front c = stands_first_gone

pub returns-clause-old : goal.returns-clause-old
returns-clause-old c = stands_rewrite_first_gone
