use Rattle.std.proofs.Common.{◌++◌, ℕ, List, sym, ap, subst, ◌∙◌}
use Rattle.sha2.specs.Hashers.{Holds256}
use Rattle.raft_sum.proofs.SumLemmas.{held_as_one}
use Rattle.raft_sum.proofs.group.GroupSum.add_part.Goals as goal

pub returns : goal.returns
returns c = record { value = λ m h. held_as_one _ m _ _ _ (c.update-2.ensures _ (c.update.ensures m (subst (λ s. Holds256 s m) (sym c.self.view_is) h))) (ap (λ (l : List ℕ). l ++ c.args.bytes.now) (c.as_slice.ensures ∙ c.number.ensures.value)) }
