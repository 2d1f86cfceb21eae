use Rattle.std.proofs.Common.{◌≡◌, ◌-◌, Some, option_map}
use Rattle.raft_c_batch.specs.Batch.{take_items}
use Rattle.raft_c_batch.proofs.LoopLemmas.{before}
use Rattle.raft_c_batch.proofs.batch.add_items.Given as goal

abbrev pub invariant-loop : goal.invariant-loop
invariant-loop l = record {
  read : option_map (before l.batch.items) (take_items (l.count - l.counter) l.rest) ≡ option_map (before l.fn.batch.items) (take_items l.count l.initial.rest);
  begun : option_map (before l.fn.batch.items) (take_items l.counter l.initial.rest) ≡ Some (l.batch.items, l.rest);
}
