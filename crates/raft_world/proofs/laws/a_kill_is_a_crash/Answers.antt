use Rattle.raft_world.proofs.SoundLemmas.{kill_leaves}
use Rattle.raft_world.proofs.laws.a_kill_is_a_crash.Goals as goal

pub returns : goal.returns
returns c = kill_leaves
