use Rattle.std.proofs.Common.{◌≡◌, ◌+◌, ◌≤◌, drop, length}
use Rattle.raft_listeners.specs.Waiting.{room_of}
use Rattle.raft_listeners.proofs.hook.PurgeHook.drop_first.Given as goal

abbrev pub invariant-loop : goal.invariant-loop
invariant-loop l = record {
  dropped : l.self.counts.items ≡ drop l.counter l.fn.self.counts.items;
  left : length l.self.counts.items + l.counter ≡ length l.fn.self.counts.items;
  room : room_of l.fn.self ≤ room_of l.self;
  first : l.self.first ≡ l.fn.self.first;
}
