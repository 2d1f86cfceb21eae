use Rattle.std.proofs.Common.{◌≡◌, ◌++◌, map, take}
use Rattle.std.specs.List.{filter_map}
use Rattle.std.specs.String.{string_bytes}
use Rattle.raft_dump.specs.LogFiles.{file_named, place_of}
use Rattle.raft_inspect.proofs.kept.add_named.Given as goal

abbrev pub invariant-loop-name : goal.invariant-loop-name
invariant-loop-name l =
    map place_of l.files.items
    ≡ map place_of l.fn.files.items ++ filter_map (file_named l.folder l.queue) (map string_bytes (take l.name-index l.names))
