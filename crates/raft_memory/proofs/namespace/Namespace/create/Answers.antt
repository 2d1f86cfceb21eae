use Rattle.std.proofs.Common.{◌≡◌, true, false, Some, [], subst, ap, ◌∙◌, refl, rules}
use Rattle.std.specs.Prelude.{is_some}
use Rattle.std.specs.BTreeMap as tree
use Rattle.std.specs.Ordering.{nat_cmp}
use Rattle.std.specs.Cmp.Lexicographic.{slice_cmp}
use Rattle.std.specs.String.{string_bytes, string_cmp}
use Rattle.raft_env.specs.Outcomes.{synced_file}
use Rattle.raft_memory.proofs.MemoryLemmas.{file_at-namespace_directory, created_after}
use Rattle.raft_memory.proofs.namespace.Namespace.create.Goals as goal

pub returns-clause-ok : goal.returns-clause-ok
returns-clause-ok c =
    let files = c.args.self.now.files in
    let none : is_some (tree.get_by_text files c.args.path.now) ≡ false = search rules in
    let key : string_bytes c.in_ok-from_str.field-0 ≡ c.args.path.now = search rules in
    let file : c.new.result ≡ synced_file [] = c.new.ensures in
    created_after files c.insert.new.self _ c.args.path.now none
    (subst (λ b. tree.UpdatesBy string_cmp (λ k. slice_cmp nat_cmp b (string_bytes k)) files c.insert.new.self (Some (synced_file []))) key
    (subst (λ v. tree.UpdatesBy string_cmp (λ k. slice_cmp nat_cmp (string_bytes c.in_ok-from_str.field-0) (string_bytes k)) files c.insert.new.self (Some v)) file c.in_ok-insert.ensures.updates))

pub returns-then-contains_key-clause-ok : goal.returns-then-contains_key-clause-ok
returns-then-contains_key-clause-ok c =
    let found : is_some (tree.get_by_text c.args.self.now.files c.args.path.now) ≡ true = search rules in
    rw (ap is_some (file_at-namespace_directory c.args.self.now c.args.path.now) ∙ found) refl
