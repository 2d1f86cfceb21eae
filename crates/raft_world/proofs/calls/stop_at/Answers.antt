use Rattle.raft_world.proofs.EffectLemmas.{arming_has_no_effect}
use Rattle.raft_world.proofs.calls.stop_at.Goals as goal

pub returns : goal.returns
returns c = arming_has_no_effect _ _ _ c.stop_at.ensures.unchanged
