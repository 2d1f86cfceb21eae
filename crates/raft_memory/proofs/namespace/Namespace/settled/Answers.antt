use Rattle.std.proofs.Common.{◌≡◌, ◌∷◌, [], refl, arith, rules}
use Rattle.std.proofs.lemmas.Grind.{common_steps}
use Rattle.raft_memory.specs.Files.{folders_of}
use Rattle.raft_memory.proofs.SettledLemmas.{with_files-first, with_files-next, with_files-last}
use Rattle.raft_memory.proofs.namespace.Namespace.settled.Goals as goal

pub loop-path-init : goal.loop-path-init
loop-path-init c = with_files-first (folders_of c.args.folders.items) _ c.new-placed.result c.args.files.items _ c.new-placed.ensures.empty c.into_iter-path-iterator.ensures.into_iter_gives.0 refl

pub loop-path-preserved-in_ok-insert : goal.loop-path-preserved-in_ok-insert
loop-path-preserved-in_ok-insert c =
    let next : c.loop-path.path-iterator.rest.items ≡ (c.in-Some.path, c.in-Some.bytes) ∷ c.next.new.self.rest.items = search rules in
    with_files-next (folders_of c.args.folders.items) _ c.loop-path.placed c.insert.new.self c.in-Some.path c.in-Some.bytes c.restarted.result _ _ next c.in_ok-insert.ensures.updates c.restarted.ensures c.loop-path.invariant

pub loop-path-preserved : goal.loop-path-preserved
loop-path-preserved c =
    let next : c.loop-path.path-iterator.rest.items ≡ (c.in-Some.path, c.in-Some.bytes) ∷ c.next.new.self.rest.items = search rules in
    with_files-next (folders_of c.args.folders.items) _ c.loop-path.placed c.insert.new.self c.in-Some.path c.in-Some.bytes c.restarted.result _ _ next c.in_ok-insert.ensures.updates c.restarted.ensures c.loop-path.invariant

pub returns : goal.returns
returns c =
    let none : c.loop-path.path-iterator.rest.items ≡ [] = grind (arith, common_steps, c.in-None.ensures.steps) in
    record { value = with_files-last (folders_of c.args.folders.items) _ c.loop-path.placed _ none c.loop-path.invariant }
