use Rattle.std.proofs.Common.{◌≡◌, true, false, refl, ap, ◌∙◌, arith}
use Rattle.std.specs.Prelude.{is_some}
use Rattle.std.specs.BTreeMap as tree
use Rattle.std.proofs.lemmas.Grind.{common_steps}
use Rattle.raft_memory.proofs.MemoryLemmas.{file_at-namespace_directory, removed_after, none_from_not_some}
use Rattle.raft_memory.proofs.namespace.Namespace.delete.Goals as goal

pub returns-then-not-contains_key : goal.returns-then-not-contains_key
returns-then-not-contains_key c =
    let lacks : is_some (tree.get_by_text c.args.self.now.files c.args.path.now) ≡ false = grind (arith, common_steps) in
    record {
      value = tt;
      ok = tt;
      err = refl;
      cause = (refl, file_at-namespace_directory c.args.self.now c.args.path.now ∙ none_from_not_some _ lacks);
    }

pub returns : goal.returns
returns c =
    let found : is_some (tree.get_by_text c.args.self.now.files c.args.path.now) ≡ true = grind (arith, common_steps) in
    record {
      value = ap is_some (file_at-namespace_directory c.args.self.now c.args.path.now) ∙ found;
      ok = removed_after c.args.self.now.files c.remove.new.self _ c.args.path.now c.remove.ensures.updates;
      err = tt;
      cause = tt;
    }
