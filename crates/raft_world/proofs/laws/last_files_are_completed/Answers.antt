use Rattle.raft_base.specs.declared.pipe_log.LogQueue.TheVariants.{Append, Rewrite}
use Rattle.raft_world.proofs.laws.last_files_are_completed.Goals as goal

pub returns : goal.returns
returns g c = λ e stands begun. (e.completed stands Append (begun Append), e.completed stands Rewrite (begun Rewrite))
