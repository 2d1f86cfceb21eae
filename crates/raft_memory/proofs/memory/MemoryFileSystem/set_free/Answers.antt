use Rattle.std.proofs.Common.{◌≡◌, Some, subst, rules}
use Rattle.std.specs.BTreeMap as tree
use Rattle.std.specs.Ordering.{nat_cmp}
use Rattle.std.specs.Cmp.Lexicographic.{slice_cmp}
use Rattle.std.specs.String.{string_bytes, string_cmp}
use Rattle.raft_memory.proofs.SetAtLemmas.{free_in-set}
use Rattle.raft_memory.proofs.memory.MemoryFileSystem.set_free.Goals as goal

pub returns-clause-ok : goal.returns-clause-ok
returns-clause-ok c =
    let key : string_bytes c.in_ok-key.key ≡ c.args.dir.now = search rules in
    free_in-set c.args.self.now.free c.insert.new.self c.args.dir.now c.args.bytes
    (subst (λ p. tree.UpdatesBy string_cmp (λ k. slice_cmp nat_cmp p (string_bytes k)) c.args.self.now.free c.insert.new.self (Some c.args.bytes)) key c.in_ok-insert.ensures.updates)
