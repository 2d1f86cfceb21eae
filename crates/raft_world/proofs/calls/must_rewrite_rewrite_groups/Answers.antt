use Rattle.raft_log_engine.specs.Purge.{HasLastId, HasOpenGroup}
use Rattle.raft_world.proofs.EffectLemmas.{purge_has_effect}
use Rattle.raft_world.proofs.calls.must_rewrite_rewrite_groups.Goals as goal

pub returns : goal.returns
returns g c = purge_has_effect g.F.FileSystem _ HasOpenGroup HasLastId _ _ _ _ c.must_rewrite_rewrite_groups.ensures.log c.must_rewrite_rewrite_groups.ensures.unchanged
