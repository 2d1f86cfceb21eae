use Rattle.std.proofs.Common.{◌≡◌, Some, None, ap, length, ◌∙◌, rules}
use Rattle.std.specs.BTreeMap as tree
use Rattle.std.specs.String.{string_bytes}
use Rattle.raft_memory.specs.Memory.{memory_directory}
use Rattle.raft_memory.specs.Refused.{IsAbsent}
use Rattle.raft_memory.proofs.MemoryLemmas.{file_at-namespace_directory}
use Rattle.raft_memory.proofs.calls.MemoryFileSystemFileSystem.file_size.Goals as goal

pub returns-in-Some-get-clause-value : goal.returns-in-Some-get-clause-value
returns-in-Some-get-clause-value c =
    let path = string_bytes c.args.handle.now.path in
    let stands : tree.get_by_text c.args.self.now.namespace.files path ≡ Some c.in-Some-get.file.now = search rules in
    (c.in-Some-get.file.now, file_at-namespace_directory c.args.self.now.namespace path ∙ stands, c.len.ensures.value ∙ ap length c.bytes.ensures.value)

pub returns-in-None-clause-cause : goal.returns-in-None-clause-cause
returns-in-None-clause-cause c =
    let path = string_bytes c.args.handle.now.path in
    let none : tree.get_by_text c.args.self.now.namespace.files path ≡ None = search rules in
    let cause : IsAbsent (memory_directory c.args.self.now) path c.count-in-None.result = (c.count-in-None.ensures.value, file_at-namespace_directory c.args.self.now.namespace path ∙ none) in
    search rules
