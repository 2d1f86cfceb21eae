use Rattle.std.proofs.Common.{◌≡◌, List, [], ◌∷◌, drop}
use Rattle.raft_records.specs.Contents.{Contents}
use Rattle.raft_allowed.specs.Changes.{batches_in}
use Rattle.raft_allowed.specs.Held.{IsHeldBy}
use Rattle.raft_allowed.specs.Walk.{AreHeldBy, contents_from}
use Rattle.raft_allowed.proofs.walk.in_flight.Given as goal

abbrev pub invariant-loop-batch : goal.invariant-loop-batch
invariant-loop-batch l = (m : Contents) → IsHeldBy m l.fn.last.groups.items
    → (ms : List Contents) × AreHeldBy l.found.items ms × (contents_from ms (batches_in (drop l.batch-index l.batches)) ≡ contents_from (m ∷ []) (batches_in l.batches))
