-- What the steps of a purge add to what was written, and why they fail.
use Rattle.std.specs.Prelude.{◌≡◌, ◌⊎◌, []}
use Rattle.raft_base.specs.declared.errors.Fault.{Fault}
use Rattle.raft_env.specs.Directory.{Directory}
use Rattle.raft_env.specs.Refusal.{Refusals}
use Rattle.raft_listeners.specs.Telling.{written_in}
use Rattle.raft_listeners.specs.declared.event_sink.EventSink.{Ghosts}
use Rattle.raft_listeners.specs.declared.purge_events.PurgeEvents.{PurgeEvents}
use Rattle.raft_queues.specs.Dual.{DualState}
use Rattle.raft_tables.specs.Owed.{Owed}
use Rattle.raft_tables.specs.Tables.{Tables}
use Rattle.raft_tables.specs.declared.rewritten.GroupsMet.{GroupsMet}
use Rattle.raft_purge_steps.specs.Cut.{AreCut}
use Rattle.raft_purge_steps.specs.Faults.{HaveOwedNoRecord}
use Rattle.raft_purge_steps.specs.declared.fault.StepFault.{StepFault}
use Rattle.raft_log_engine.specs.Purge.{IsRunRefusal, rests_of}
use Rattle.raft_log_engine.specs.declared.engine.purge_kind.Purge.{Purge}

-- why the steps of a purge fail: IsRunRefusal, or owed marks have no record
abbrev pub IsStepsRefusal : Purge → Tables → Owed → GroupsMet → DualState → DualState → Directory
    → Refusals → Refusals → (Fault → Type 0) → StepFault → Type 0
IsStepsRefusal purge t owed groups d d' n' old new IsUnfit =
    IsRunRefusal purge groups d d' n' old new (λ e. HaveOwedNoRecord t owed e ⊎ IsUnfit e)

module _ {L : Type 0} {g : Ghosts L} where
  -- all batches that a purge writes are full, except as many as rests_of says
  abbrev pub AddsRestsOf : Purge → PurgeEvents L g → PurgeEvents L g → Type 0
  AddsRestsOf purge old new =
      written_in old ≡ [] → AreCut (rests_of purge) 0 (written_in new)
