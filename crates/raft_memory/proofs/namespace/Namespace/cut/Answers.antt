use Rattle.std.proofs.Common.{◌≡◌, inl, inr, None, refl, Some, take, sym, ◌∙◌, ap, arith, rules}
use Rattle.std.specs.BTreeMap as tree
use Rattle.std.proofs.lemmas.Grind.{common_steps}
use Rattle.std.proofs.lemmas.Result.{err_from_is_err_and}
use Rattle.raft_env.specs.Outcomes.{file_after_resize}
use Rattle.raft_memory.proofs.MemoryLemmas.{file_at-namespace_directory, changed_after, same_after, found_in}
use Rattle.raft_memory.proofs.namespace.Namespace.cut.Goals as goal

pub returns-in_ok-cut-in-Some : goal.returns-in_ok-cut-in-Some
returns-in_ok-cut-in-Some c =
    let stands : tree.get_by_text c.args.self.now.files c.args.path.now ≡ Some c.in-Some.file.now = search rules in
    record {
      value = found_in c.args.self.now c.args.path.now _ stands;
      ok = changed_after c.args.self.now.files (c.get_mut.follows.lender c.cut.new.self) _ c.args.path.now (λ f. file_after_resize (take c.args.size f.now) f) _ c.cut.new.self stands
          c.in_ok-cut-in-Some.ensures.ok ((c.get_mut.follows.holds c.cut.new.self).3 (search rules));
      err = tt;
      cause = tt;
    }

pub returns-in_err-cut-in-Some : goal.returns-in_err-cut-in-Some
returns-in_err-cut-in-Some c =
    let stands : tree.get_by_text c.args.self.now.files c.args.path.now ≡ Some c.in-Some.file.now = search rules in
    let same : c.cut.new.self ≡ c.in-Some.file.now = c.in_err-cut-in-Some.ensures.err in
    let refused = err_from_is_err_and c.from_residual.result c.from_residual.ensures.1 in
    rw (refused.1, refused.2) (record {
      value = tt;
      ok = tt;
      err = same_after c.args.self.now.files (c.get_mut.follows.lender c.cut.new.self) _ c.args.path.now c.cut.new.self (stands ∙ ap Some (sym same)) (c.get_mut.follows.holds c.cut.new.self).0;
      cause = inl refl;
    })

pub returns-in-None : goal.returns-in-None
returns-in-None c =
    let none : tree.get_by_text c.args.self.now.files c.args.path.now ≡ None = search rules in
    record {
      value = tt;
      ok = tt;
      err = first_of (search rules, grind (arith, common_steps));
      cause = inr (refl, file_at-namespace_directory c.args.self.now c.args.path.now ∙ none);
    }
