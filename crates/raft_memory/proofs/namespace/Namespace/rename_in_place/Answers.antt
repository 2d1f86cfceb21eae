use Rattle.std.proofs.Common.{◌≡◌, ◌∙◌, None, refl, Some, arith, rules}
use Rattle.std.specs.BTreeMap as tree
use Rattle.std.proofs.lemmas.Grind.{common_steps}
use Rattle.raft_env.specs.Outcomes.{renamed_of}
use Rattle.raft_memory.proofs.MemoryLemmas.{file_at-namespace_directory, changed_after, found_in}
use Rattle.raft_memory.proofs.namespace.Namespace.rename_in_place.Goals as goal

pub returns-in-Some : goal.returns-in-Some
returns-in-Some c =
    let stands : tree.get_by_text c.args.self.now.files c.args.path.now ≡ Some c.in-Some.file.now = search rules in
    record {
      value = found_in c.args.self.now c.args.path.now _ stands;
      ok = changed_after c.args.self.now.files (c.get_mut.follows.lender c.rename.new.self) _ c.args.path.now renamed_of _ c.rename.new.self stands
          c.rename.ensures ((c.get_mut.follows.holds c.rename.new.self).3 (search rules));
      err = tt;
      cause = tt;
    }

pub returns-in-None : goal.returns-in-None
returns-in-None c =
    let none : tree.get_by_text c.args.self.now.files c.args.path.now ≡ None = search rules in
    record {
      value = tt;
      ok = tt;
      err = first_of (search rules, grind (arith, common_steps));
      cause = (refl, file_at-namespace_directory c.args.self.now c.args.path.now ∙ none);
    }
