use Rattle.raft_shared.proofs.Durability.{durable_so}
use Rattle.raft_shared.proofs.Noting.{begins_so}
use Rattle.raft_shared.proofs.Origins.{origin_seated}
use Rattle.raft_shared.proofs.desk.Desk.seat.Goals as goal

pub invariant_of-self : goal.invariant_of-self
invariant_of-self g c =
    let old = c.args.self.now in
    let same = c.seat.ensures.unchanged in
    record {
      begins = begins_so _ _ old.front same.history old.begins;
      durable = durable_so _ old.shared c.seat.new.self old.durable same.base same.history same.engine;
      origin = origin_seated _ _ _ old.origin same;
    }
