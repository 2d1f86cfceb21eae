use Rattle.std.proofs.Common.{◌≡◌, Some, None, inr, sym, ◌∙◌, subst, rules}
use Rattle.std.specs.BTreeMap as tree
use Rattle.std.specs.String.{string_bytes}
use Rattle.raft_env.specs.Directory.{ReadsAt, IsReading}
use Rattle.raft_memory.proofs.MemoryLemmas.{file_at-namespace_directory}
use Rattle.raft_memory.proofs.calls.MemoryFileSystemFileSystem.read.Goals as goal

pub returns-in-Some-get-clause-ok : goal.returns-in-Some-get-clause-ok
returns-in-Some-get-clause-ok c =
    let path = string_bytes c.args.reader.now.path in
    let stands : tree.get_by_text c.args.self.now.namespace.files path ≡ Some c.in-Some-get.file.now = search rules in
    subst (λ o. ReadsAt o c.args.at c.copy_from.result c.args.bytes.now c.copy_from.new.bytes) (sym (file_at-namespace_directory c.args.self.now.namespace path ∙ stands))
    (subst (λ b. IsReading b c.args.at c.copy_from.result c.args.bytes.now c.copy_from.new.bytes) c.bytes.ensures.value c.copy_from.ensures)

pub returns-in-None-clause-cause : goal.returns-in-None-clause-cause
returns-in-None-clause-cause c =
    let path = string_bytes c.args.reader.now.path in
    let none : tree.get_by_text c.args.self.now.namespace.files path ≡ None = search rules in
    inr (c.refuse-in-None.ensures.value, file_at-namespace_directory c.args.self.now.namespace path ∙ none)
