use Rattle.std.proofs.Common.{refl}
use Rattle.raft_shared.proofs.Durability.{none_durable}
use Rattle.raft_shared.proofs.desk.Desk.new.Goals as goal

pub invariant_of-result : goal.invariant_of-result
invariant_of-result g c = record {
  begins = rw c.requires.front refl;
  durable = none_durable _;
  origin = c.requires.origin;
}
