use Rattle.std.proofs.Common.{◌≡◌, ◌∙◌, ◌+◌, ◌==◌, ℕ, List, length, drop, take, ap, sym, subst, arith}
use Rattle.std.specs.List.{list_all}
use Rattle.raft_dump.proofs.CheckLemmas.{zeros_off, zeros_on}
use Rattle.raft_dump.specs.Parts.{AreOf}
use Rattle.raft_dump.proofs.PartLemmas.{bytes_of_part}
use Rattle.raft_dump.proofs.part_check.has_zeros.Goals as goal

pub returns-then-not-are_zeros : goal.returns-then-not-are_zeros
returns-then-not-are_zeros g c = record {
  value = λ bytes size_is are.
      let e = c.in_ok-part.ensures in
      let split = subst (AreOf bytes) e.ok are in
      let inv = c.parts.invariant in
      zeros_off bytes c.args.from c.parts.at c.min-len.result (inv.0 bytes size_is split.1) (ap (list_all (λ b. b == 0)) (sym (bytes_of_part bytes c.in_ok-part.part c.parts.at c.min-len.result e.value.0 e.value.1 split.0) ∙ sym c.deref.ensures.value) ∙ sym c.are_zeros.ensures.value ∙ c.if-not-are_zeros.true);
  given = λ bytes are. c.parts.invariant.1 bytes (subst (AreOf bytes) c.in_ok-part.ensures.ok are).1;
  cause = tt;
}

pub parts-preserved : goal.parts-preserved
parts-preserved g c =
    let e = c.in_ok-part.ensures in
    let inv = c.parts.invariant in (
      λ bytes size_is are.
          let split = subst (AreOf bytes) e.ok are in
          zeros_on bytes c.args.from c.parts.at c.min-len.result (inv.0 bytes size_is split.1) (ap (list_all (λ b. b == 0)) (sym (bytes_of_part bytes c.in_ok-part.part c.parts.at c.min-len.result e.value.0 e.value.1 split.0) ∙ sym c.deref.ensures.value) ∙ sym c.are_zeros.ensures.value ∙ c.if-not-are_zeros.false),
      λ bytes are. inv.1 bytes (subst (AreOf bytes) e.ok are).1,
    )
