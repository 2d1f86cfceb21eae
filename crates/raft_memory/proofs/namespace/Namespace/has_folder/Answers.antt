use Rattle.std.proofs.Common.{◌≡◌, false, length, sym, ap, ◌∙◌, ◌||◌, rules, tests}
use Rattle.std.specs.Prelude.{◌==◌}
use Rattle.std.specs.String.{string_bytes}
use Rattle.std.specs.List.{list_any}
use Rattle.std.proofs.lemmas.Iterator.{YieldsList-from_slice}
use Rattle.std.proofs.lemmas.Iterator.Search.{any_from_yields_List}
use Rattle.raft_env.specs.Directory.{is_on_way}
use Rattle.raft_memory.proofs.namespace.Namespace.has_folder.Goals as goal

pub returns-else-is_empty : goal.returns-else-is_empty
returns-else-is_empty c =
    let found = any_from_yields_List (λ p. is_on_way c.args.path.now (string_bytes p)) _ _ c.any.result c.any.ensures.ran (YieldsList-from_slice c.args.self.now.folders.items cc) (λ x b q k. search (rules, tests)) in
    let some : (length c.args.path.now == 0) ≡ false = sym c.is_empty.ensures ∙ c.if-is_empty.false in
    record { value = found ∙ ap (λ b. b || list_any (λ p. is_on_way c.args.path.now (string_bytes p)) c.args.self.now.folders.items) (sym some) }
