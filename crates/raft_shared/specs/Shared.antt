-- What a shared engine shows, and what its calls add to its history.
use Rattle.std.specs.Prelude.{◌≡◌, ℕ, Bool, List, [], ◌∷◌, ◌++◌, if◌then◌else◌, IfOk, OnErr, length, map, Option, Result, Vec, option_map}
use Rattle.std.specs.declared.alloc.Global.{Global}
use Rattle.raft_base.specs.declared.errors.Fault.{Fault}
use Rattle.raft_env.specs.Refusal.{Refusals}
use Rattle.raft_env.specs.declared.env.FileSystem.{Ghosts}
use Rattle.raft_records.specs.Contents.{Contents}
use Rattle.raft_records.specs.Item.{Batch}
use Rattle.raft_log_engine.specs.Engine.{has_failed}
use Rattle.raft_log_engine.specs.declared.engine.Engine.{Engine}
use Rattle.raft_shared.specs.Begun.{contents_in, failed_in, lacks_numbers, lacks_numbers_in, refusals_in}
use Rattle.raft_log_engine.specs.Calls.{IsCallersWrite, IsSync}
use Rattle.raft_log_engine.specs.Once.{IsWriteOnce}
use Rattle.raft_log_engine.specs.PurgeCalls.{IsExpiry}
use Rattle.raft_once.specs.Numbers.{Pair}
use Rattle.raft_shared.specs.Calls.{IsGet}
use Rattle.raft_shared.specs.History.{Answer, Asked, Done, Event, Get, Index, Purge, Size, Sync, Value, Write, WriteOnce}
use Rattle.raft_shared.specs.Words.{Told, answer_by, event_of, told_by}
use Rattle.raft_shared.specs.declared.call.Receipt.{Receipt}
use Rattle.raft_shared.specs.declared.seat.Seat.{Seat}
use Rattle.raft_shared.specs.declared.shared.Shared.{Shared}

-- the receipts of a seat
abbrev pub receipts_of : Seat → List Told
receipts_of seat = map told_by seat.receipts.items

module _ {F H R W : Type 0} {g : Ghosts F H R W} where
  -- the engine that is shared
  abbrev pub engine_of : Shared F H R W g → Engine F H R W g
  engine_of shared = shared.engine

  -- the recorded calls, the first one first
  abbrev pub history_of : Shared F H R W g → List Event
  history_of shared = map event_of shared.trail.items

  -- how many calls it records at most
  abbrev pub limit_of : Shared F H R W g → ℕ
  limit_of shared = shared.limit

  -- how many seats it has given out
  abbrev pub seats_of : Shared F H R W g → ℕ
  seats_of shared = shared.seats

  -- the contents that the engine held at `new`
  abbrev pub base_of : Shared F H R W g → Contents
  base_of shared = contents_in shared.begun.items

  -- the engine had failed at `new`
  abbrev pub had_failed : Shared F H R W g → Bool
  had_failed shared = failed_in shared.begun.items

  -- how many calls of the engine's files had failed at `new`
  abbrev pub refusals_at_new : Shared F H R W g → Refusals
  refusals_at_new shared = refusals_in shared.begun.items

  -- no file number was left when a write last left a usable engine, or at `new`
  abbrev pub had_ended : Shared F H R W g → Bool
  had_ended shared = lacks_numbers_in shared.written.items

  -- the state at `new`, the limit and the number of seats are as before
  pub record IsSameShared (old new : Shared F H R W g) : Type 0 where
    pub base : base_of new ≡ base_of old
    pub failed : had_failed new ≡ had_failed old
    pub refusals : refusals_at_new new ≡ refusals_at_new old
    pub limit : limit_of new ≡ limit_of old
    pub seats : seats_of new ≡ seats_of old

  -- all except the number of its seats is as before
  pub record IsButSeats (old new : Shared F H R W g) : Type 0 where
    pub engine : engine_of new ≡ engine_of old
    pub history : history_of new ≡ history_of old
    pub base : base_of new ≡ base_of old
    pub failed : had_failed new ≡ had_failed old
    pub refusals : refusals_at_new new ≡ refusals_at_new old
    pub ended : had_ended new ≡ had_ended old
    pub limit : limit_of new ≡ limit_of old

  -- nothing was recorded, and the engine is as it was
  pub record HasRecordedNothing (old new : Shared F H R W g) (seat seat' : Seat) : Type 0 where
    pub same : IsSameShared old new
    pub engine : engine_of new ≡ engine_of old
    pub ended : had_ended new ≡ had_ended old
    pub history : history_of new ≡ history_of old
    pub number : seat'.number ≡ seat.number
    pub receipts : receipts_of seat' ≡ receipts_of seat

  -- exactly this call was recorded as the seat's, and the seat got exactly its receipt
  pub record HasRecorded (asked : Asked) (answer : Answer) (old new : Shared F H R W g)
      (seat seat' : Seat) (receipt : Receipt) : Type 0 where
    pub same : IsSameShared old new
    pub history : history_of new ≡ history_of old
        ++ record { seat = seat.number; asked = asked; answer = answer } ∷ []
    pub number : seat'.number ≡ seat.number
    pub receipts : receipts_of seat' ≡ receipts_of seat ++ told_by receipt ∷ []
    pub receipt_is : told_by receipt
        ≡ record { number = length (history_of old); asked = asked; answer = answer }

  -- the engine was asked to write, and the call was recorded with the result
  pub record RecordsWrite (items rest : Batch) (sync : Bool) (old new : Shared F H R W g)
      (seat seat' : Seat) (receipt : Receipt) : Type 0 where
    pub result : Result ℕ Fault
    pub write : IsCallersWrite items rest sync (engine_of old) (engine_of new) result
    pub ended : had_ended new ≡ (if has_failed (engine_of new) then had_ended old
        else lacks_numbers (engine_of new))
    pub recorded : HasRecorded (Write items sync) (Size (answer_by (λ n. n) result)) old new seat
        seat' receipt

  -- the engine was asked to write with numbers, and the call was recorded with the result
  pub record RecordsWriteOnce (items rest : Batch) (pairs : List Pair) (sync : Bool)
      (old new : Shared F H R W g) (seat seat' : Seat) (receipt : Receipt) : Type 0 where
    pub result : Result ℕ Fault
    pub write : IsWriteOnce items rest pairs sync (engine_of old) (engine_of new) result
    pub ended : had_ended new ≡ (if has_failed (engine_of new) then had_ended old
        else lacks_numbers (engine_of new))
    pub recorded : HasRecorded (WriteOnce items pairs sync) (Size (answer_by (λ n. n) result)) old
        new seat seat' receipt

  -- the engine was asked to sync, and the call was recorded with the result
  pub record RecordsSync (old new : Shared F H R W g) (seat seat' : Seat) (receipt : Receipt)
      : Type 0 where
    pub result : Result (Unit {0}) Fault
    pub sync : IsSync (engine_of old) (engine_of new) result
    pub ended : had_ended new ≡ had_ended old
    pub recorded : HasRecorded Sync (Done (answer_by (λ _. tt) result)) old new seat seat' receipt

  -- the engine was asked to purge; these groups are to be compacted, none after `Err`
  pub record RecordsPurge (barrier : ℕ) (old new : Shared F H R W g) (seat seat' : Seat)
      (asked : List ℕ) (receipt : Receipt) : Type 0 where
    pub result : Result (Vec ℕ Global) Fault
    pub purge : IsExpiry barrier (engine_of old) (engine_of new) result
    pub groups : IfOk result (λ groups. asked ≡ groups.items)
    pub none : OnErr result (asked ≡ [])
    pub ended : had_ended new ≡ (if has_failed (engine_of new) then had_ended old
        else lacks_numbers (engine_of new))
    pub recorded : HasRecorded (Purge barrier) (Done (answer_by (λ _. tt) result)) old new seat
        seat' receipt

  -- the engine was asked for a key, and the call was recorded with the result
  pub record RecordsGet (group : ℕ) (key : List ℕ) (old new : Shared F H R W g)
      (seat seat' : Seat) (receipt : Receipt) : Type 0 where
    pub result : Result (Option (Vec ℕ Global)) Fault
    pub get : IsGet group key (engine_of old) result
    pub engine : engine_of new ≡ engine_of old
    pub ended : had_ended new ≡ had_ended old
    pub recorded : HasRecorded (Get group key) (Value (answer_by (option_map (λ v. v.items)) result))
        old new seat seat' receipt

  -- the engine returned an index, this one unless it had failed, and the call was recorded
  pub record RecordsIndex (asked : Asked) (is : Option ℕ) (old new : Shared F H R W g)
      (seat seat' : Seat) (receipt : Receipt) : Type 0 where
    pub index : Option ℕ
    pub index_is : has_failed (engine_of old) ≡ Bool.false → index ≡ is
    pub engine : engine_of new ≡ engine_of old
    pub ended : had_ended new ≡ had_ended old
    pub recorded : HasRecorded asked (Index index) old new seat seat' receipt
