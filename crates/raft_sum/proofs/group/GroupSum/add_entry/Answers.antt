use Rattle.std.proofs.Common.{◌++◌, ◌∷◌, ℕ, List, sym, ap, subst, ◌∙◌}
use Rattle.raft_sum.specs.Sum.{part_bytes}
use Rattle.sha2.specs.Hashers.{Holds256}
use Rattle.raft_sum.proofs.SumLemmas.{held_in_three}
use Rattle.raft_sum.proofs.group.GroupSum.add_entry.Goals as goal

pub returns : goal.returns
returns c = record { value = λ m h. held_in_three _ m _ _ _ _ (c.add_part.ensures.value _ (c.update-2.ensures _ (c.update.ensures m (subst (λ s. Holds256 s m) (sym c.self.view_is) h)))) (ap (λ (l : List ℕ). l ++ (c.as_slice-2.result.now ++ part_bytes c.args.bytes.now)) c.as_slice.ensures ∙ ap (λ (l : List ℕ). 1 ∷ (l ++ part_bytes c.args.bytes.now)) (c.as_slice-2.ensures ∙ c.number.ensures.value)) }
