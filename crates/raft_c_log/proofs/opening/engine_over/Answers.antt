use Rattle.std.proofs.Common.{inl}
use Rattle.raft_c_log.proofs.opening.engine_over.Goals as goal

pub returns-in-Ok : goal.returns-in-Ok
returns-in-Ok g c = record {
  opens = inl (record { settings = c.in-Ok.config; read = c.in-Ok.ensures.ok; opens = c.open_in_order.ensures });
}
