use Rattle.raft_consistency.specs.Holes.{kept_in}
use Rattle.raft_consistency.proofs.TakenLemmas.{taken_join}
use Rattle.raft_consistency.proofs.replaying.ConsistencyCheckerMergingMachine.merge.Goals as goal

pub returns-clause-ok : goal.returns-clause-ok
returns-clause-ok c = λ blocks earlier older later before behind group.
    taken_join group older later (kept_in c.args.self.now group) (kept_in c.args.newer group) (kept_in c.join.new.self group) (c.in_ok-join.ensures.ok group) (before group) (behind group)
