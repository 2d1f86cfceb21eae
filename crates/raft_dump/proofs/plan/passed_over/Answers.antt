use Rattle.std.proofs.Common.{◌≡◌, ◌∙◌, ◌==◌, ℕ, suc, ◌+◌, ◌-◌, true, false, ap, sym, subst, arith}
use Rattle.std.proofs.lemmas.Bool.{eq-eqb, eqb-true}
use Rattle.std.specs.Prelude.{get_or, slice_index}
use Rattle.raft_dump.specs.Check.{numbers_of}
use Rattle.raft_dump.proofs.CheckLemmas.{RiseBefore, length_numbers, number_at, rise_anew, rise_on}
use Rattle.raft_dump.proofs.plan.passed_over.Goals.{then-not-is_next, else-not-is_next}
use Rattle.raft_dump.proofs.plan.passed_over.Goals as goal

pub loop-place-preserved : goal.loop-place-preserved
loop-place-preserved c =
    let numbers = numbers_of c.args.checks.now in
    let place = c.loop-place.place in
    let here = number_at c.args.checks.now place c.index-checks-place-in-loop-place.result (omega arith) in
    let before = number_at c.args.checks.now (place - 1) c.index-checks-place.result (omega arith) in
    let test : c.is_next.result ≡ (slice_index numbers place == suc (slice_index numbers (place - 1))) =
    c.is_next.ensures.value ∙ ap (λ (k : ℕ). k == suc (get_or c.args.checks.now (place - 1) c.index-checks-place.result).id.seq) (sym here) ∙ ap (λ (k : ℕ). slice_index numbers place == suc k) (sym before) in
    elim c.if-not-is_next.branch [
      | then-not-is_next w ↦ subst (λ (k : ℕ). RiseBefore numbers k (place + 1)) (sym w.passed-is) (rise_anew numbers place (omega (arith, c.loop-place.invariant.before)) (omega (arith, length_numbers c.args.checks.now)) (λ rises.
          let bad : true ≡ false = sym (eq-eqb (slice_index numbers place) (suc (slice_index numbers (place - 1))) rises) ∙ sym test ∙ w.if-not-is_next.true in
          cc))
      | else-not-is_next w ↦ subst (λ (k : ℕ). RiseBefore numbers k (place + 1)) (sym w.passed-is) (rise_on numbers c.loop-place.passed place c.loop-place.invariant (eqb-true (slice_index numbers place) (suc (slice_index numbers (place - 1))) (sym test ∙ w.if-not-is_next.false)))
    ]
