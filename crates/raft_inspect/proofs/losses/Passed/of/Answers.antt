use Rattle.std.proofs.Common.{◌≡◌, ◌∙◌, ◌++◌, ◌+◌, ◌<◌, ◌^◌, List, ◌∷◌, [], true, false, ap, arith, inl, inr, length, length-take, subst, sym, take}
use Rattle.std.specs.List.{list_all}
use Rattle.std.proofs.lemmas.Bool.{cases_Bool, false_from_ne_true}
use Rattle.std.proofs.lemmas.List.{take_all, take_more}
use Rattle.raft_dump.specs.declared.check.FileCheck.{FileCheck}
use Rattle.raft_inspect.specs.Kept.{holds_nothing}
use Rattle.raft_inspect.proofs.KeptLemmas.{IsToldTo, none_held, told_more, told_same}
use Rattle.raft_inspect.proofs.losses.Passed.of.Goals as goal

pub loop-check-preserved : goal.loop-check-preserved
loop-check-preserved c =
    let checks = c.args.checks.now in
    let i = c.loop-check.check-index in
    let check = c.check-item.result in
    let grown : take (i + 1) checks ≡ take i checks ++ check ∷ [] = take_more checks i check (omega (arith, c.loop-check-test.true)) ∙ ap (λ (x : FileCheck). take i checks ++ x ∷ []) (sym c.check-item.is) in
    let short : length (take i checks) + 1 < 2 ^ 64 = omega (arith, c.loop-check-test.true, length-take i checks) in
    subst (λ (front : List FileCheck). IsToldTo c.args.queue front c.add.new.self) (sym grown)
    (elim (cases_Bool (holds_nothing check)) [
      | inl is ↦ told_same check c.loop-check.invariant is c.add.ensures.queue c.add.ensures.last (c.add.ensures.adds_none is)
      | inr is ↦ told_more check c.loop-check.invariant short is c.add.ensures.queue c.add.ensures.last (c.add.ensures.adds_one is)
    ])

pub returns-then-passed-eq0 : goal.returns-then-passed-eq0
returns-then-passed-eq0 c =
    let checks = c.args.checks.now in
    let whole : take c.loop-check.check-index checks ≡ checks = take_all c.loop-check.check-index checks (omega (arith, c.loop-check-test.false)) in
    record {
      told = subst (λ (all : List FileCheck). list_all holds_nothing all ≡ true) whole
          ((none_held (take c.loop-check.check-index checks)).0 (sym c.loop-check.invariant.files ∙ c.if-passed-eq0.true));
    }

pub returns : goal.returns
returns c =
    let checks = c.args.checks.now in
    let whole : take c.loop-check.check-index checks ≡ checks = take_all c.loop-check.check-index checks (omega (arith, c.loop-check-test.false)) in
    let all = subst (λ (front : List FileCheck). IsToldTo c.args.queue front c.loop-check.passed) whole c.loop-check.invariant in
    record {
      told = record {
        queue_is = all.queue_is;
        some = false_from_ne_true _ (λ every. absurd (let none = all.files ∙ (none_held checks).1 every in let some = c.if-passed-eq0.false in omega (arith, none, some)));
        files = all.files;
        bytes = all.bytes;
        first = all.first;
        last = all.last;
        missing = c.saturating_add.ensures;
      };
    }
