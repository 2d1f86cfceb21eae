use Rattle.std.proofs.Common.{◌≡◌, ◌∙◌, Option, ap, refl, subst, sym, ℕ}
use Rattle.raft_tables.specs.Table.{TableView}
use Rattle.raft_purge_rules.specs.Choosing.{IsDecided, decision}
use Rattle.raft_purge_rules.specs.declared.choosing.Decision.{Decision}
use Rattle.raft_purge_rules.proofs.choosing.decide.Goals as goal

pub returns-in-Some-clause-value : goal.returns-in-Some-clause-value
returns-in-Some-clause-value c =
    let is = c.decide_of.ensures.value in
    let t = c.in-Some.table.now in
    subst (λ (v : Option TableView). IsDecided c.args.needs.now c.args.is_due v c.decide_of.result) c.in-Some.ensures.value
    (t, refl, is ∙ ap (λ (group : ℕ). decision group c.args.needs.now c.args.is_due t) (sym (ap (λ (d : Decision). d.group) is)))
