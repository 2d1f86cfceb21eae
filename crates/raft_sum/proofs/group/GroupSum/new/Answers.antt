use Rattle.std.proofs.Common.{[], subst, ◌∙◌}
use Rattle.sha2.specs.Hashers.{Holds256}
use Rattle.raft_sum.proofs.group.GroupSum.new.Goals as goal

pub returns : goal.returns
returns c = record { value = subst (λ l. Holds256 c.update.new.self l) (c.as_slice.ensures ∙ c.number.ensures.value) (c.update.ensures [] c.new-hasher.ensures) }
