use Rattle.std.proofs.Common.{◌≡◌, ◌++◌, map}
use Rattle.std.specs.List.{filter_map}
use Rattle.std.specs.String.{string_bytes}
use Rattle.std.specs.BTreeMap as tree
use Rattle.raft_env.specs.Directory.{name_in}
use Rattle.raft_memory.proofs.namespace.Namespace.names.Given as goal

abbrev pub invariant-loop-path : goal.invariant-loop-path
invariant-loop-path l = map string_bytes l.names.items ++ filter_map (name_in l.folder) (map string_bytes l.path-iterator) ≡ filter_map (name_in l.folder) (map string_bytes (tree.keys l.self.files))
