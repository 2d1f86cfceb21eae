use Rattle.raft_recovery_laws.proofs.DropRewriteLemmas.{dropped_old_batches, holds_with_more, later_part}
use Rattle.raft_recovery_laws.proofs.ExactLemmas.{dropped_is_held}
use Rattle.raft_recovery_laws.proofs.drop_rewrite_laws.dropped_rewrite_files_change_nothing.Goals as goal

pub returns-clause-dropped : goal.returns-clause-dropped
returns-clause-dropped c = dropped_old_batches

pub returns-clause-more : goal.returns-clause-more
returns-clause-more c = holds_with_more

pub returns-clause-exact : goal.returns-clause-exact
returns-clause-exact c = dropped_is_held

pub returns-clause-later : goal.returns-clause-later
returns-clause-later c = later_part
