-- What a log holds for its user, and what a call or a crash makes of that.
use Rattle.std.specs.Prelude.{◌≡◌, ℕ, Bool, List, [], ◌++◌, take, if◌then◌else◌}
use Rattle.raft_records.specs.Contents.{Contents, after_batches}
use Rattle.raft_records.specs.Item.{Batch}
use Rattle.raft_log_engine.specs.Group.{chosen_of}

-- the batches of a log, by what a crash may do to them
pub record Ledger : Type 0 where
  -- the contents before any of them
  pub start : Contents
  -- no crash takes these
  pub durable : List Batch
  -- these were accepted after them; a crash may take the last ones
  pub unsynced : List Batch
  -- a call that was cut short was writing these; a crash may leave any of them, after all others
  pub in_flight : List Batch

-- the contents after the durable batches
abbrev pub durable_contents : Ledger → Contents
durable_contents l = after_batches l.start l.durable

-- the contents after all accepted batches
abbrev pub accepted_contents : Ledger → Contents
accepted_contents l = after_batches (durable_contents l) l.unsynced

-- a log that starts with these contents
abbrev pub starts_with : Contents → Ledger
starts_with m = record { start = m; durable = []; unsynced = []; in_flight = [] }

-- the ledger with these accepted batches more
abbrev pub accepting : List Batch → Ledger → Ledger
accepting batches l = record l { unsynced = l.unsynced ++ batches; in_flight = [] }

-- the ledger after a sync
abbrev pub all_durable : Ledger → Ledger
all_durable l =
    record { start = l.start; durable = l.durable ++ l.unsynced; unsynced = []; in_flight = [] }

-- what a call does to the log
pub record Effect : Type 0 where
  -- it may write these batches
  pub writes : List Batch
  -- it accepts these of them
  pub accepts : List Batch
  -- it makes all accepted batches durable
  pub syncs : Bool

-- the ledger after a call, if the engine hasn't failed
abbrev pub after_effect : Effect → Ledger → Ledger
after_effect effect l =
    if effect.syncs then all_durable (accepting effect.accepts l) else accepting effect.accepts l

-- the ledger after a call that a crash cut short, or in which the engine failed
abbrev pub interrupted : Effect → Ledger → Ledger
interrupted effect l = record l { in_flight = effect.writes }

-- the ledger after an opening that finds `count` batches; `written` chooses of those in flight
abbrev pub after_crash : Ledger → List Bool → ℕ → Ledger
after_crash l written count =
    let found = take count (l.unsynced ++ chosen_of (accepted_contents l) written l.in_flight) in
    record { start = l.start; durable = l.durable ++ found; unsynced = []; in_flight = [] }

-- an opening may find these contents, and then the ledger is the later one
abbrev pub MayRecover : Ledger → Ledger → Contents → Type 0
MayRecover l later found = ∥ ((written : List Bool) × (count : ℕ)
    × (later ≡ after_crash l written count) × (found ≡ accepted_contents later)) ∥₁

-- an opening may find these contents
abbrev pub MayFind : Ledger → Contents → Type 0
MayFind l found = ∥ ((later : Ledger) × MayRecover l later found) ∥₁
