use Rattle.raft_shared.proofs.CallLemmas.{get_finds}
use Rattle.raft_shared.proofs.shared.Shared.look_up.Goals as goal

pub returns : goal.returns
returns g c = record {
  get = c.get.ensures.value;
  value = get_finds _ _ _ _ c.get.ensures.value _ c.args.self.now.contents;
}
