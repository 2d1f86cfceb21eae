use Rattle.std.proofs.Common.{◌≡◌, ℕ, List, Some, None, inr, sym, ◌∙◌, subst, take, drop, rules}
use Rattle.std.specs.BTreeMap as tree
use Rattle.raft_env.specs.Directory.{IsPartAt}
use Rattle.raft_memory.specs.Memory.{memory_directory}
use Rattle.raft_memory.specs.Refused.{IsMissing}
use Rattle.raft_memory.proofs.MemoryLemmas.{file_at-namespace_directory}
use Rattle.raft_memory.proofs.memory.MemoryFileSystem.read_part.Goals as goal

pub returns-in_default-get-clause-cause : goal.returns-in_default-get-clause-cause
returns-in_default-get-clause-cause c =
    let path = c.args.path.now in
    let none : tree.get_by_text c.args.self.now.namespace.files path ≡ None = search rules in
    let missing : IsMissing (memory_directory c.args.self.now) path c.count-in_default-get.result = inr (c.count-in_default-get.ensures.value, file_at-namespace_directory c.args.self.now.namespace path ∙ none) in
    search rules

pub returns-in-Ok-clause-ok : goal.returns-in-Ok-clause-ok
returns-in-Ok-clause-ok c =
    let path = c.args.path.now in
    let stands : tree.get_by_text c.args.self.now.namespace.files path ≡ Some c.in-Some-get.file.now = search rules in
    subst (λ o. IsPartAt o c.args.at c.args.len c.copy_part.new.bytes.items) (sym (file_at-namespace_directory c.args.self.now.namespace path ∙ stands))
    (subst (λ (b : List ℕ). c.copy_part.new.bytes.items ≡ take c.args.len (drop c.args.at b)) c.bytes.ensures.value c.in-Ok.ensures)
