use Rattle.std.proofs.Common.{◌≡◌, ◌++◌, map}
use Rattle.std.specs.Vec.Iter.{into_iter_items}
use Rattle.raft_dump.specs.LogFiles.{place_of}
use Rattle.raft_pipes.specs.FileList.{place_of as found_place}
use Rattle.raft_pipes.specs.Numbered.{in_queue}
use Rattle.raft_inspect.proofs.kept.as_log_files.Given as goal

-- the files so far, and those that are left
abbrev pub invariant-loop-file : goal.invariant-loop-file
invariant-loop-file l =
    map place_of l.files.items ++ map (λ f. (in_queue l.queue f.0, f.1)) (map found_place (into_iter_items l.file-iterator))
    ≡ map (λ f. (in_queue l.queue f.0, f.1)) (map found_place l.fn.found.items)
