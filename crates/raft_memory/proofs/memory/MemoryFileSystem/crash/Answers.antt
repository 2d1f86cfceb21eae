use Rattle.std.proofs.Common.{◌≡◌, rules}
use Rattle.std.specs.String.{string_bytes}
use Rattle.std.specs.BTreeMap as tree
use Rattle.std.specs.BTreeSet as set
use Rattle.raft_memory.proofs.SetAtLemmas.{free_in-copy, contains_text-copy}
use Rattle.raft_memory.proofs.memory.MemoryFileSystem.crash.Goals as goal

pub returns-clause-free : goal.returns-clause-free
returns-clause-free c =
    let same : tree.IsClone (λ s t. string_bytes t ≡ string_bytes s) (λ x y. y ≡ x) c.args.self.now.free c.in_ok-clone.field-0 = search rules in
    free_in-copy c.args.self.now.free c.in_ok-clone.field-0 same

pub returns-clause-metadata : goal.returns-clause-metadata
returns-clause-metadata c =
    let same : set.IsClone (λ s t. string_bytes t ≡ string_bytes s) c.args.self.now.metadata c.in_ok-clone-2.field-0 = search rules in
    contains_text-copy c.args.self.now.metadata c.in_ok-clone-2.field-0 same
