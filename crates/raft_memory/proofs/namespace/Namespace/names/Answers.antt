use Rattle.std.proofs.Common.{◌≡◌, map, sym, ap, ◌∙◌, arith}
use Rattle.std.specs.List.{filter_map}
use Rattle.std.specs.String.{string_bytes}
use Rattle.std.specs.BTreeMap as tree
use Rattle.std.proofs.lemmas.Grind.{common_steps}
use Rattle.std.proofs.lemmas.List.{append-nil}
use Rattle.raft_env.specs.Directory.{name_in}
use Rattle.raft_memory.specs.Files.{folders_of}
use Rattle.raft_memory.proofs.FilesLemmas.{keys-directory_of}
use Rattle.raft_memory.proofs.namespace.Namespace.names.Goals as goal

pub returns : goal.returns
returns c =
    let all : map string_bytes c.loop-path.names.items ≡ filter_map (name_in c.args.folder.now) (map string_bytes (tree.keys c.args.self.now.files)) = grind (arith, common_steps, append-nil, c.in-None.ensures.steps) in
    let keys = keys-directory_of c.args.self.now.files (folders_of c.args.self.now.folders.items) c.keys-path-items.ensures.ordered in
    record { value = all ∙ ap (filter_map (name_in c.args.folder.now)) (sym keys); cause = tt }
