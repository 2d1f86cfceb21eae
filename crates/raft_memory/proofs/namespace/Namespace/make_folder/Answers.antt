use Rattle.std.proofs.Common.{◌≡◌, ◌∙◌, ap, inr, refl, sym, true, rules, tests}
use Rattle.std.specs.BTreeMap as tree
use Rattle.std.specs.List.{list_any}
use Rattle.std.specs.String.{string_bytes}
use Rattle.std.proofs.lemmas.Iterator.Consumers.{YieldsList-from_rest}
use Rattle.std.proofs.lemmas.Iterator.Search.{any_from_yields_List}
use Rattle.raft_env.specs.Directory.{is_on_way}
use Rattle.raft_memory.specs.Files.{folders_of}
use Rattle.raft_memory.proofs.FilesLemmas.{any_by_bytes, keys-directory_of}
use Rattle.raft_memory.proofs.FilesFolderLemmas.{folder_made_again}
use Rattle.raft_memory.proofs.namespace.Namespace.make_folder.Goals as goal

pub returns-then-has_folder-clause-ok : goal.returns-then-has_folder-clause-ok
returns-then-has_folder-clause-ok c =
    let stands : folders_of c.args.self.now.folders.items c.args.path.now ≡ true = search rules in
    folder_made_again c.args.self.now.files c.args.self.now.folders.items c.args.path.now stands

pub returns-then-any-clause-cause : goal.returns-then-any-clause-cause
returns-then-any-clause-cause c =
    let files = c.args.self.now.files in
    let path = c.args.path.now in
    let found = any_from_yields_List (λ k. is_on_way (string_bytes k) path) _ _ c.any.result c.any.ensures.ran (YieldsList-from_rest (tree.keys files) c.keys.ensures.rest) (λ x b q k. search (rules, tests)) in
    let keys = keys-directory_of files (folders_of c.args.self.now.folders.items) c.keys.ensures.ordered in
    inr (refl, ap (list_any (λ file. is_on_way file path)) keys ∙ any_by_bytes (λ file. is_on_way file path) (tree.keys files) ∙ sym found ∙ c.if-any.true)
