-- Choices that leave each file whole.
use Rattle.std.proofs.Common.{◌≡◌, ◌⊎◌, ℕ, List, length, slice_index_or, inl, inr}
use Rattle.std.proofs.lemmas.Bool.{cases_lt}
use Rattle.std.proofs.lemmas.List.{get_or_past}
use Rattle.std.proofs.lemmas.List.Elements.{All-get_or}
use Rattle.raft_memory.specs.Choice.{AreWhole}
use Rattle.raft_memory.specs.declared.crash.Choice.{Choice}
use Rattle.raft_memory.specs.declared.crash.Choice.TheVariants as choice

pub whole_choice : (choices : List Choice) → AreWhole choices → (i : ℕ) → (slice_index_or choices i choice.Synced ≡ choice.All) ⊎ (slice_index_or choices i choice.Synced ≡ choice.Synced)
whole_choice choices whole i = elim (cases_lt i (length choices)) [
  | inl within ↦ All-get_or (λ c. (c ≡ choice.All) ⊎ (c ≡ choice.Synced)) choices i choice.Synced within whole
  | inr past ↦ inr (get_or_past choices i choice.Synced past)
]
