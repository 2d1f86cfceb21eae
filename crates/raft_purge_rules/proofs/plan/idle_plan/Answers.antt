use Rattle.std.proofs.Common.{◌∙◌, List, Option, None, refl, subst, sym, ℕ}
use Rattle.std.specs.List.Sorted.{IsStrictlySortedBy}
use Rattle.std.specs.Ordering.{nat_cmp}
use Rattle.raft_purge_rules.specs.Plan.{AreNextRounds}
use Rattle.raft_purge_rules.specs.declared.choosing.Chosen.TheVariants.{Asked, Rewritten}
use Rattle.raft_purge_rules.specs.declared.choosing.Watermarks.{Watermarks}
use Rattle.raft_purge_rules.proofs.IdleLemmas.{idle, idle_decisions, none_chosen, none_sorted}
use Rattle.raft_purge_rules.proofs.plan.idle_plan.Goals as goal

pub returns-clause-value : goal.returns-clause-value
returns-clause-value c = λ needs rounds m rewrite append. record {
  decisions = idle_decisions m;
  decided = idle needs rounds m rewrite append;
  asked = c.new.ensures.items ∙ sym (none_chosen Asked m);
  rewritten = c.new-2.ensures.items ∙ sym (none_chosen Rewritten m);
  rounds_next = subst (λ (o : Option Watermarks). AreNextRounds o (idle_decisions m) rounds None) (sym append) (λ group. refl);
}

pub returns-clause-ascending : goal.returns-clause-ascending
returns-clause-ascending c = (
  subst (λ (gs : List ℕ). IsStrictlySortedBy nat_cmp gs) (sym c.new.ensures.items) none_sorted,
  subst (λ (gs : List ℕ). IsStrictlySortedBy nat_cmp gs) (sym c.new-2.ensures.items) none_sorted,
)
