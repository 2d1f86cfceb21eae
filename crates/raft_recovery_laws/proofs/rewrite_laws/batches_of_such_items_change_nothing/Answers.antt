use Rattle.std.proofs.Common.{◌∙◌, ap}
use Rattle.raft_recovery_laws.specs.Recovered.{effect, items_of, replay}
use Rattle.raft_recovery_laws.proofs.GroupLemmas.{effect-complete_group, effect-unmarked}
use Rattle.raft_recovery_laws.proofs.KeyLemmas.{after_batches-items_of}
use Rattle.raft_recovery_laws.proofs.MarkLemmas.{each_changes_nothing}
use Rattle.raft_recovery_laws.proofs.rewrite_laws.batches_of_such_items_change_nothing.Goals as goal

pub returns-clause-unmarked : goal.returns-clause-unmarked
returns-clause-unmarked c = λ old appended batch unmarked each.
    ap (λ x. replay x appended) (effect-unmarked old batch unmarked) ∙ each_changes_nothing (effect old) appended batch each

pub returns-clause-items : goal.returns-clause-items
returns-clause-items c = λ id old group appended none all complete each.
    ap (λ x. replay x appended) (effect-complete_group id old group none all complete ∙ after_batches-items_of (effect old) group) ∙ each_changes_nothing (effect old) appended (items_of group) each

pub returns-clause-group : goal.returns-clause-group
returns-clause-group c = λ id old group appended none all complete same. ap (λ x. replay x appended) (effect-complete_group id old group none all complete) ∙ same
