use Rattle.std.proofs.Common.{◌≡◌, length}
use Rattle.raft_listeners.specs.Heard.{least_of}
use Rattle.raft_listeners.proofs.listeners.Listeners.barrier.Given as goal

abbrev pub invariant-loop-listener : goal.invariant-loop-listener
invariant-loop-listener g l = record {
  least : l.barrier ≡ least_of l.active l.answers.items;
  each : length l.answers.items ≡ l.listener-index;
}
