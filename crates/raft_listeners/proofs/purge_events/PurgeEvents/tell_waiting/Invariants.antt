use Rattle.std.proofs.Common.{◌≡◌, drop}
use Rattle.raft_listeners.specs.Told.{with_applied}
use Rattle.raft_listeners.specs.Telling.{written_in}
use Rattle.raft_listeners.proofs.purge_events.PurgeEvents.tell_waiting.Given as goal

-- those before are told of
abbrev pub invariant-loop-at : goal.invariant-loop-at
invariant-loop-at g l = record {
  same : l.self.waiting ≡ l.fn.self.waiting;
  listeners : l.self.listeners.ghost_name ≡ l.fn.self.listeners.ghost_name;
  found : l.self.found.items ≡ l.fn.self.found.items;
  written : written_in l.self ≡ written_in l.fn.self;
  rest : with_applied (drop l.at l.fn.self.waiting.items) l.self.told.items ≡ with_applied l.fn.self.waiting.items l.fn.self.told.items;
}
