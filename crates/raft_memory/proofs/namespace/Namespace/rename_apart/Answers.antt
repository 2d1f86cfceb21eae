use Rattle.std.proofs.Common.{◌≡◌, true, false, Some, [], refl, ap, inr, ◌∙◌, rules, arith}
use Rattle.std.specs.Prelude.{is_some}
use Rattle.std.specs.BTreeMap as tree
use Rattle.std.specs.String.{string_bytes}
use Rattle.std.proofs.lemmas.Grind.{common_steps}
use Rattle.std.proofs.lemmas.Map.Text.{text_keys}
use Rattle.raft_env.specs.Outcomes.{synced_file, renamed_of}
use Rattle.raft_env.specs.Directory.{with_file, without_file}
use Rattle.raft_memory.specs.Files.{directory_of, folders_of}
use Rattle.raft_memory.proofs.MemoryLemmas.{file_at-namespace_directory, removed_after, placed_key, renamed_after_room, none_from_not_some}
use Rattle.raft_memory.proofs.namespace.Namespace.rename_apart.Goals as goal

pub unreachable-requires : goal.unreachable-requires
unreachable-requires c = grind (arith, text_keys)

pub unreachable-requires-in_default-insert : goal.unreachable-requires-in_default-insert
unreachable-requires-in_default-insert c = grind (arith, text_keys)

pub returns-then-not-contains_key : goal.returns-then-not-contains_key
returns-then-not-contains_key c =
    let lacks : is_some (tree.get_by_text c.args.self.now.files c.args.from.now) ≡ false = grind (arith, common_steps) in
    record {
      value = tt;
      ok = tt;
      err = refl;
      cause = inr (refl, file_at-namespace_directory c.args.self.now c.args.from.now ∙ none_from_not_some _ lacks);
    }

pub returns : goal.returns
returns c =
    let found : is_some (tree.get_by_text c.args.self.now.files c.args.from.now) ≡ true = grind (arith, common_steps) in
    let old = c.args.self.now.files in
    let roomy = c.insert.new.self in
    let without = c.remove.new.self in
    let folders = folders_of c.args.self.now.folders.items in
    let from = c.args.from.now in
    let to = c.args.to.now in
    let moved = renamed_of c.in-Some.file in
    let first : string_bytes c.in_ok-first.first ≡ to = search rules in
    let second : string_bytes c.in_ok-second.second ≡ to = search rules in
    let room : directory_of roomy folders ≡ with_file to (synced_file []) (directory_of old folders) = placed_key old roomy folders c.in_ok-first.first to c.new.result (synced_file []) c.in_ok-insert.ensures.updates first c.new.ensures in
    let taken : directory_of without folders ≡ without_file from (directory_of roomy folders) = removed_after roomy without folders from c.remove.ensures.updates in
    let there : directory_of c.insert-2.new.self folders ≡ with_file to moved (directory_of without folders) = placed_key without c.insert-2.new.self folders c.in_ok-second.second to c.rename.new.self moved c.in-Ok.ensures.updates second c.rename.ensures in
    let stood : tree.get_by_text old from ≡ Some c.in-Some.file = grind (arith, text_keys) in
    record {
      value = ap is_some (file_at-namespace_directory c.args.self.now c.args.from.now) ∙ found;
      ok = there ∙ ap (with_file to moved) (taken ∙ ap (without_file from) room) ∙ renamed_after_room (directory_of old folders) from to c.in-Some.file (synced_file []) (file_at-namespace_directory c.args.self.now from ∙ stood);
      err = tt;
      cause = tt;
    }
