use Rattle.std.proofs.Common.{◌≡◌, ◌++◌, map}
use Rattle.std.specs.List.{filter}
use Rattle.std.specs.Vec.Iter.{into_iter_items}
use Rattle.raft_dump.specs.LogFiles.{place_of}
use Rattle.raft_inspect.specs.Kept.{is_passed}
use Rattle.raft_inspect.proofs.kept.passed_among.Given as goal

-- those so far, and those of the files that are left
abbrev pub invariant-loop-file : goal.invariant-loop-file
invariant-loop-file l =
    map place_of l.passed.items ++ filter (is_passed (map place_of l.kept)) (map place_of (into_iter_items l.file-iterator))
    ≡ filter (is_passed (map place_of l.kept)) (map place_of l.fn.listed.items)
