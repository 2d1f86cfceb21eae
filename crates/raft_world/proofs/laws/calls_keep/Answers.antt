use Rattle.raft_world.proofs.KeptLemmas.{calls_keep, writes_keep}
use Rattle.raft_world.proofs.laws.calls_keep.Goals as goal

pub returns-clause-batches : goal.returns-clause-batches
returns-clause-batches g c = calls_keep g.F.FileSystem

pub returns-clause-write : goal.returns-clause-write
returns-clause-write g c = writes_keep g.F.FileSystem
