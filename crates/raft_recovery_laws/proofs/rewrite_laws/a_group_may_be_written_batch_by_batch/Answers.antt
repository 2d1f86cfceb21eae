use Rattle.std.proofs.Common.{◌≡◌, ◌∙◌, ◌++◌, ◌∷◌, ℕ, List, [], true, false, ap, append_assoc, append-nil, refl, sym}
use Rattle.std.specs.List.{list_all}
use Rattle.raft_records.specs.Item.{Batch}
use Rattle.raft_recovery_laws.specs.Groups.{is_complete, is_of_group, places_in}
use Rattle.raft_recovery_laws.specs.Recovered.{effect, recovered, replay}
use Rattle.raft_recovery_laws.proofs.GroupLemmas.{effect-complete_group, effect-open_group}
use Rattle.raft_recovery_laws.proofs.rewrite_laws.a_group_may_be_written_batch_by_batch.Goals as goal

-- a group that isn't complete, at the end
open_at_end : (id : ℕ) (old group appended : List Batch) → places_in id old ≡ [] → list_all (is_of_group id) group ≡ true → is_complete (places_in id group) ≡ false → recovered (old ++ group) appended ≡ recovered old appended
open_at_end id old group appended none all incomplete =
    ap (λ bs. recovered bs appended) (sym (append-nil (old ++ group))) ∙ ap (λ x. replay x appended) (effect-open_group id old group [] none refl all incomplete) ∙ ap (λ bs. recovered bs appended) (append-nil old)

pub returns-clause-open : goal.returns-clause-open
returns-clause-open c = λ id old group appended batch none all all_more incomplete still.
    ap (λ bs. recovered bs appended) (append_assoc old group (batch ∷ [])) ∙ open_at_end id old (group ++ batch ∷ []) appended none all_more still ∙ sym (open_at_end id old group appended none all incomplete)

pub returns-clause-last : goal.returns-clause-last
returns-clause-last c = λ id old group appended batch none all all_more incomplete complete same.
    ap (λ bs. recovered bs appended) (append_assoc old group (batch ∷ [])) ∙ ap (λ x. replay x appended) (effect-complete_group id old (group ++ batch ∷ []) none all_more complete) ∙ same
    ∙ sym (open_at_end id old group appended none all incomplete)
