use Rattle.std.proofs.Common.{◌≡◌, drop}
use Rattle.raft_records.specs.Contents.{Contents}
use Rattle.raft_once.specs.Numbers.{are_new}
use Rattle.raft_allowed.specs.Held.{IsHeldBy}
use Rattle.raft_allowed.proofs.batches.are_new.Given as goal

abbrev pub invariant-loop-pair : goal.invariant-loop-pair
invariant-loop-pair l = (m : Contents) → IsHeldBy m l.groups → are_new m (drop l.pair-index l.pairs) ≡ are_new m l.pairs
