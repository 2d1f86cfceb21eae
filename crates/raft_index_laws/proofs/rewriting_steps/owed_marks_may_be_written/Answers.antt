use Rattle.raft_index_laws.proofs.StepLemmas.{forgotten, marks_take, marks_written}
use Rattle.raft_index_laws.proofs.rewriting_steps.owed_marks_may_be_written.Goals as goal

pub returns-clause-takes : goal.returns-clause-takes
returns-clause-takes c = marks_take

pub returns-clause-written : goal.returns-clause-written
returns-clause-written c = marks_written

pub returns-clause-forgotten : goal.returns-clause-forgotten
returns-clause-forgotten c = forgotten
