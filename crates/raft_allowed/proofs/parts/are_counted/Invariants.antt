use Rattle.std.proofs.Common.{◌≡◌, ◌+◌, drop}
use Rattle.raft_log_engine.specs.Image.{entries_of}
use Rattle.raft_allowed.specs.Changes.{are_counted_from}
use Rattle.raft_allowed.proofs.parts.are_counted.Given as goal

abbrev pub invariant-loop-place : goal.invariant-loop-place
invariant-loop-place l = are_counted_from (l.start + l.place) (entries_of (drop l.place l.entries)) ≡ are_counted_from l.start (entries_of l.entries)
