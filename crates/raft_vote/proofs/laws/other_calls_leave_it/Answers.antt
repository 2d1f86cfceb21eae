use Rattle.raft_vote.proofs.OtherLemmas.{other_calls_leave_it, other_writes_leave_it}
use Rattle.raft_vote.proofs.laws.other_calls_leave_it.Goals as goal

pub returns-clause-calls : goal.returns-clause-calls
returns-clause-calls g c = other_calls_leave_it g.F.FileSystem c.calls_keep.ensures.batches

pub returns-clause-write : goal.returns-clause-write
returns-clause-write g c = other_writes_leave_it g.F.FileSystem c.calls_keep.ensures.write
