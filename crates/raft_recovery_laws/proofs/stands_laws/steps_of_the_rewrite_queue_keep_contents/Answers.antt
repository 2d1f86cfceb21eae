use Rattle.std.proofs.Common.{◌∙◌}
use Rattle.raft_recovery_laws.proofs.StandsLemmas.{all_rewritten, stands_rewritten, stands_rewritten_synced, stands_rewrite_dropped}
use Rattle.raft_recovery_laws.proofs.stands_laws.steps_of_the_rewrite_queue_keep_contents.Goals as goal

pub returns-clause-written : goal.returns-clause-written
returns-clause-written c = λ q m batch s consecutive same. stands_rewritten q m batch s consecutive (same ∙ all_rewritten q m s)

pub returns-clause-synced : goal.returns-clause-synced
returns-clause-synced c = stands_rewritten_synced

pub returns-clause-dropped : goal.returns-clause-dropped
returns-clause-dropped c = stands_rewrite_dropped
