use Rattle.std.proofs.Common.{List, take}
use Rattle.raft_records.specs.Contents.{Contents}
use Rattle.raft_allowed.specs.Changes.{batch_in}
use Rattle.raft_allowed.specs.Walk.{AreHeldBy, taken_of}
use Rattle.raft_allowed.proofs.walk.taken_from.Given as goal

abbrev pub invariant-loop-image : goal.invariant-loop-image
invariant-loop-image l = (ms : List Contents) → AreHeldBy l.found ms → AreHeldBy l.taken.items (taken_of (batch_in l.batch) (take l.image-index ms))
