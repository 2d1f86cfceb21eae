use Rattle.std.proofs.Common.{◌≡◌, true, subst, rules}
use Rattle.std.specs.BTreeSet as set
use Rattle.std.specs.Ordering.{nat_cmp}
use Rattle.std.specs.Cmp.Lexicographic.{slice_cmp}
use Rattle.std.specs.String.{string_bytes, string_cmp}
use Rattle.raft_memory.proofs.SetAtLemmas.{contains_text-set}
use Rattle.raft_memory.proofs.memory.MemoryFileSystem.set_metadata.Goals as goal

pub returns-clause-ok : goal.returns-clause-ok
returns-clause-ok c =
    let key : string_bytes c.in_ok-key.key ≡ c.args.path.now = search rules in
    contains_text-set c.args.self.now.metadata c.insert.new.self c.args.path.now true
    (subst (λ p. set.UpdatesBy string_cmp (λ k. slice_cmp nat_cmp p (string_bytes k)) c.args.self.now.metadata c.insert.new.self true) key c.in_ok-insert.ensures.updates)
