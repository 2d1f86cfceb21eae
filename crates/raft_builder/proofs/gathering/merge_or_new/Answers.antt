use Rattle.std.proofs.Common.{◌≡◌, ◌==◌, true, [], length, rules}
use Rattle.std.proofs.lemmas.Bool.{eqb-true}
use Rattle.std.proofs.lemmas.List.{nil_from_length}
use Rattle.std.proofs.lemmas.Result.{IfOk-weaker}
use Rattle.raft_builder.proofs.GatherLemmas.{none_stand}
use Rattle.raft_builder.proofs.gathering.merge_or_new.Goals as goal

pub returns-then-is_empty-clause-ok : goal.returns-then-is_empty-clause-ok
returns-then-is_empty-clause-ok g c =
    let stands_for = g.M.ReplayMachine.stands_for in
    let empty : (length c.args.machines.items == 0) ≡ true = search rules in
    let none : c.args.machines.items ≡ [] = nil_from_length c.args.machines.items (eqb-true (length c.args.machines.items) 0 empty) in
    IfOk-weaker c.new_target.result _ _ (λ m new blocks parts zip.
    none_stand (λ part machine. stands_for c.args.queue blocks [] machine part) (stands_for c.args.queue blocks [] m) parts c.args.machines.items none zip (c.requires.fresh m new c.args.queue blocks)) c.new_target.ensures.ok
