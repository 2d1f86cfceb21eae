use Rattle.raft_world.proofs.EffectLemmas.{read_has_no_effect}
use Rattle.raft_world.proofs.calls.image.Goals as goal

pub returns : goal.returns
returns g c = read_has_no_effect g.F.FileSystem _ _ c.image.ensures.unchanged
