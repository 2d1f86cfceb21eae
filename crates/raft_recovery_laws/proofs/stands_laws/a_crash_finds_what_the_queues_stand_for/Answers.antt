use Rattle.raft_recovery_laws.proofs.StandsLemmas.{found_prefix, stands_opened, stands_reopened}
use Rattle.raft_recovery_laws.proofs.stands_laws.a_crash_finds_what_the_queues_stand_for.Goals as goal

pub returns-clause-crash : goal.returns-clause-crash
returns-clause-crash c = found_prefix

pub returns-clause-opened : goal.returns-clause-opened
returns-clause-opened c = stands_opened

pub returns-clause-reopened : goal.returns-clause-reopened
returns-clause-reopened c = stands_reopened
