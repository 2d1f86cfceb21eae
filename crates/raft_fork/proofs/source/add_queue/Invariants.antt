use Rattle.std.proofs.Common.{◌≡◌, ◌++◌, map}
use Rattle.std.specs.String.{string_bytes}
use Rattle.std.specs.Vec.Iter.{into_iter_items}
use Rattle.raft_pipes.specs.FileList.{place_of}
use Rattle.raft_pipes.specs.Numbered.{in_queue}
use Rattle.raft_fork.specs.Fork.{source_of, sources_in}
use Rattle.raft_fork.proofs.source.add_queue.Given as goal

-- the files so far, and those that are left
abbrev pub invariant-loop-file : goal.invariant-loop-file
invariant-loop-file g l =
    map source_of l.files.items ++ map (λ f. (in_queue l.fn.queue f.0, f.1)) (map place_of (into_iter_items l.file-iterator))
    ≡ map source_of l.fn.files.items ++ sources_in l.fn.queue (map string_bytes l.fn.folders) (g.F.FileSystem.directory l.fn.file_system)
