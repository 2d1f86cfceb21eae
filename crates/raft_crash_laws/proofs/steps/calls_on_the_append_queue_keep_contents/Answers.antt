use Rattle.std.proofs.Common.{[], ◌∷◌, refl}
use Rattle.raft_base.specs.declared.pipe_log.LogQueue.TheVariants.{Append}
use Rattle.raft_crash_laws.specs.Contents.{known_from}
use Rattle.raft_crash_laws.specs.Held.{LeaveKnown}
use Rattle.raft_crash_laws.proofs.StepsLemmas.{held_appended, held_appending, held_begins, held_kept, held_recovers, held_still, held_synced, known_more, known_synced}
use Rattle.raft_crash_laws.proofs.steps.calls_on_the_append_queue_keep_contents.Goals as goal

pub returns-clause-now : goal.returns-clause-now
returns-clause-now c = λ d folders m since known n held. (held_recovers d folders m since (LeaveKnown known) n held, held_begins d folders m since (LeaveKnown known) n held)

pub returns-clause-written : goal.returns-clause-written
returns-clause-written c = λ d d' folders m since known old new held given b done is valid.
    held_appended d d' folders m since (LeaveKnown known) (LeaveKnown (known_from known (b ∷ []))) old new held given b done is valid (λ q h. known_more known (known_from known (b ∷ [])) q b (λ group. refl) h)

pub returns-clause-synced : goal.returns-clause-synced
returns-clause-synced c = λ d d' folders m since known old new held done.
    held_synced d d' folders m since (LeaveKnown known) (LeaveKnown known) old new held done (λ q h. known_synced known Append q h)

pub returns-clause-rotated : goal.returns-clause-rotated
returns-clause-rotated c = λ d d' folders m since known old new held done. held_still d d' folders m since (LeaveKnown known) (LeaveKnown known) old new held done (λ q h. h)

pub returns-clause-writing : goal.returns-clause-writing
returns-clause-writing c = λ d folders m since known old n held. held_appending d folders m since (LeaveKnown known) old n held

pub returns-clause-other : goal.returns-clause-other
returns-clause-other c = λ d folders m since known old n held. held_kept d folders m since (LeaveKnown known) old n held
