use Rattle.raft_index_laws.proofs.StepLemmas.{gathered_takes, gathered_unmarked, gathered_written}
use Rattle.raft_index_laws.proofs.rewriting_steps.a_gathered_batch_may_be_written.Goals as goal

pub returns-clause-takes : goal.returns-clause-takes
returns-clause-takes c = gathered_takes

pub returns-clause-written : goal.returns-clause-written
returns-clause-written c = gathered_written

pub returns-clause-unmarked : goal.returns-clause-unmarked
returns-clause-unmarked c = gathered_unmarked
