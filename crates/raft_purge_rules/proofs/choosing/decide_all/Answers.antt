use Rattle.std.proofs.Common.{◌≡◌, ◌∙◌, ◌+◌, ◌++◌, ◌∷◌, [], List, ap, map, subst, sym, take, ℕ}
use Rattle.std.proofs.lemmas.List.{take_more}
use Rattle.std.specs.Prelude.{nat_le}
use Rattle.std.specs.List.{AllByRecursion as Each}
use Rattle.raft_recovery_laws.proofs.EachLemmas.{each_append}
use Rattle.raft_tables.specs.Tables.{tables_of}
use Rattle.raft_purge_rules.specs.Choosing.{IsDecided}
use Rattle.raft_purge_rules.specs.Rounds.{rounds_of}
use Rattle.raft_purge_rules.specs.declared.choosing.Decision.{Decision}
use Rattle.raft_purge_rules.proofs.ChoosingLemmas.{decided_by, groups_more}
use Rattle.raft_purge_rules.proofs.choosing.decide_all.Goals as goal

pub loop-group-preserved : goal.loop-group-preserved
loop-group-preserved c =
    let d = c.decide-decided.result in
    let before = c.loop-group.decisions.items in
    let items = c.deref-group-items.result.now in
    let pushed = c.in_ok-push.ensures.items in
    record {
      groups = ap (map (λ (d : Decision). d.group)) pushed ∙ groups_more before d ∙ ap (λ (gs : List ℕ). gs ++ d.group ∷ []) c.loop-group.invariant.groups ∙ ap (λ (k : ℕ). take c.loop-group.group-index items ++ k ∷ []) c.decide-decided.ensures.group ∙ sym (take_more items c.loop-group.group-index 0 c.loop-group-test.true);
      each = subst (Each (λ d. IsDecided c.args.needs.now (nat_le 9 (rounds_of c.args.rounds.now d.group)) (tables_of c.args.tables.now d.group) d)) (sym pushed)
          (each_append (λ (d : Decision). IsDecided c.args.needs.now (nat_le 9 (rounds_of c.args.rounds.now d.group)) (tables_of c.args.tables.now d.group) d) before (d ∷ []) c.loop-group.invariant.each
          (decided_by c.args.needs.now c.args.rounds.now (tables_of c.args.tables.now) _ _ d c.is_due.ensures.value c.decide-decided.ensures.group c.decide-decided.ensures.value, tt));
    }
