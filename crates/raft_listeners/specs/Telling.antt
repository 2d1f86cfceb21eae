-- What is told while a purge runs.
use Rattle.std.specs.Prelude.{◌≡◌, List, ◌++◌, map}
use Rattle.raft_records.specs.Item.{Batch}
use Rattle.raft_listeners.specs.declared.event_sink.EventSink.{Ghosts}
use Rattle.raft_listeners.specs.declared.listener.Event.{Event}
use Rattle.raft_listeners.specs.declared.purge_events.PurgeEvents.{PurgeEvents}

module _ {L : Type 0} {g : Ghosts L} where
  -- the same listeners hear of the same purge
  abbrev pub AreOfPurge : PurgeEvents L g → PurgeEvents L g → Type 0
  AreOfPurge old new = (new.listeners.ghost_name ≡ old.listeners.ghost_name)
      × (new.found.items ≡ old.found.items)

  -- the batches of the records that they were told of, the newest first
  abbrev pub written_in : PurgeEvents L g → List Batch
  written_in events = map (λ batch. batch.items) events.written.items

  -- they were told these too, the newest first, and the records among them are of these batches
  pub record Tells (events : List Event) (batches : List Batch) (old new : PurgeEvents L g)
      : Type 0 where
    pub purge : AreOfPurge old new
    pub told : new.told.items ≡ events ++ old.told.items
    pub written : written_in new ≡ batches ++ written_in old
    pub waiting : new.waiting ≡ old.waiting
