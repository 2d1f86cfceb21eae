use Rattle.std.proofs.Common.{List, map, take}
use Rattle.raft_once.specs.Numbers.{shown}
use Rattle.raft_records.specs.Contents.{Contents}
use Rattle.raft_allowed.specs.Walk.{AreHeldBy}
use Rattle.raft_allowed.proofs.left.all_shown.Given as goal

abbrev pub invariant-loop-image : goal.invariant-loop-image
invariant-loop-image l = (ms : List Contents) → AreHeldBy l.images ms → AreHeldBy l.new.items (map shown (take l.image-index ms))
