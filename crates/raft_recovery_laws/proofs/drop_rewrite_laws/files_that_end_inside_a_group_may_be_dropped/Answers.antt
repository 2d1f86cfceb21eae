use Rattle.raft_recovery_laws.proofs.DropRewriteLemmas.{dropped_before_rest, dropped_to_a_cut}
use Rattle.raft_recovery_laws.proofs.drop_rewrite_laws.files_that_end_inside_a_group_may_be_dropped.Goals as goal

pub returns-clause-cut : goal.returns-clause-cut
returns-clause-cut c = dropped_to_a_cut

pub returns-clause-rest : goal.returns-clause-rest
returns-clause-rest c = dropped_before_rest
