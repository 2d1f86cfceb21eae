use Rattle.std.proofs.Common.{◌≡◌, ◌-◌, map, option_map}
use Rattle.raft_c_batch.specs.Batch.{stored_of, take_each}
use Rattle.raft_c_batch.proofs.LoopLemmas.{before}
use Rattle.raft_c_batch.proofs.batch.take_each.Given as goal

abbrev pub invariant-loop : goal.invariant-loop
invariant-loop l = record {
  read : option_map (before (map stored_of l.entries.items)) (take_each (l.count - l.counter) l.rest) ≡ take_each l.count l.bytes;
}
