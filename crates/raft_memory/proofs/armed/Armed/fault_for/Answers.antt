use Rattle.std.proofs.Common.{◌≡◌, refl, not, ap, sym, ◌∙◌}
use Rattle.raft_memory.specs.Armed.{arm_of, is_due, one_less}
use Rattle.raft_memory.proofs.ArmedLemmas.{arms_of-retained}
use Rattle.raft_memory.proofs.armed.Armed.fault_for.Goals as goal

pub returns-clause-armed : goal.returns-clause-armed
returns-clause-armed c = arms_of-retained _ c.args.call (λ s. s.0.now ≡ c.args.call) (λ s x stays t y is h.
    let said = h.called.met.0 in (
      said.0 ∙ (λ i. not (is_due (is i) (arm_of (h.shows i)))),
      ap arm_of (sym h.leaves) ∙ said.1 ∙ (λ i. one_less (is i) (arm_of (h.shows i))),
      (λ i. (h.called.met.1 i).0.now) ∙ is,
    )) _ _ _ refl c.retain_mut.ensures.filtered
