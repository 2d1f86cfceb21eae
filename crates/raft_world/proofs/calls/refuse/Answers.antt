use Rattle.raft_world.proofs.EffectLemmas.{arming_has_no_effect}
use Rattle.raft_world.proofs.calls.refuse.Goals as goal

pub returns : goal.returns
returns c = arming_has_no_effect _ _ _ c.refuse.ensures.unchanged
