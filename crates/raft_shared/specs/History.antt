-- A history of a shared engine, in the words of contents, and when it is legal: one thread could have
-- made it.
use Rattle.std.specs.Prelude.{◌≡◌, ◌⊎◌, ℕ, ◌^◌, ◌≤◌, Bool, true, false, List, [], ◌∷◌, Option, Some, Result, Ok, Err, fold, suc, if◌then◌else◌}
use Rattle.raft_base.specs.declared.errors.Fault.TheVariants as fault
use Rattle.raft_base.specs.declared.errors.IoKind.{IoKind}
use Rattle.raft_records.specs.Contents.{Contents, after_batch, first_index_of, last_index_of}
use Rattle.raft_records.specs.Item.{Batch}
use Rattle.raft_records.specs.Validity.{IsValidBatch, batch_refusal}
use Rattle.raft_once.specs.Numbers.{Pair, are_new, are_old, are_unfit, meets_number, numbered, shown}
use Rattle.raft_log_engine.specs.Engine.{record_len}

-- a call and its arguments
pub data Asked : Type 0 where
  Write : (batch : Batch) (sync : Bool) → Asked
  -- a write with numbers of groups, which acts once
  WriteOnce : (batch : Batch) (pairs : List Pair) (sync : Bool) → Asked
  Sync : Asked
  -- a purge by watermarks, with its barrier
  Purge : (barrier : ℕ) → Asked
  Get : (group : ℕ) (key : List ℕ) → Asked
  First : (group : ℕ) → Asked
  Last : (group : ℕ) → Asked

-- why a call is refused; the path is the text of an `Io`
pub data Reason : Type 0 where
  Io : (kind : IoKind) (path : List ℕ) → Reason
  TryAgain : Reason
  Gap : Reason
  Range : Reason
  Failed : Reason
  Memory : Reason
  Invalid : Reason
  StaleNumber : Reason
  -- a fault of another number, which no legal history has
  Other : (code : ℕ) → Reason

-- the result of a call
pub data Answer : Type 0 where
  Size : (size : Result ℕ Reason) → Answer
  Done : (done : Result (Unit {0}) Reason) → Answer
  Value : (value : Result (Option (List ℕ)) Reason) → Answer
  Index : (index : Option ℕ) → Answer

-- a call of a seat with its result
pub record Event : Type 0 where
  pub seat : ℕ
  pub asked : Asked
  pub answer : Answer

-- the contents after a call: only a successful write changes them, by numbers only if all are new
abbrev pub after_event : Contents → Event → Contents
after_event m event = after_answer m event.asked event.answer
  where
    after_answer : Contents → Asked → Answer → Contents
    after_answer m (Write batch sync) (Size (Ok size)) = after_batch m batch
    after_answer m (WriteOnce batch pairs sync) (Size (Ok size)) =
        if are_new m pairs then after_batch m (numbered batch pairs) else m
    after_answer m asked answer = m

-- the contents after a history
abbrev pub after_events : Contents → List Event → Contents
after_events m events = fold after_event m events

-- why the write of a batch is refused, and if that fails the engine; `ended`: no file number left
abbrev pub IsRefusedWrite : Contents → Bool → Batch → Reason → Bool → Type 0
IsRefusedWrite m ended batch Gap fails =
    (batch_refusal m batch ≡ Some fault.Gap) × (fails ≡ false)
IsRefusedWrite m ended batch Range fails = ((batch_refusal m batch ≡ Some fault.Range)
    ⊎ (IsValidBatch m batch × ((2 ^ 56 ≤ record_len batch) ⊎ (ended ≡ true))))
    × (fails ≡ false)
IsRefusedWrite m ended batch TryAgain fails = IsValidBatch m batch × (fails ≡ false)
IsRefusedWrite m ended batch (Io kind path) fails =
    IsValidBatch m batch × (path ≡ []) × (batch ≡ [] → fails ≡ true)
IsRefusedWrite m ended batch Memory fails =
    IsValidBatch m batch × (batch ≡ [] → fails ≡ true)
IsRefusedWrite m ended batch Failed fails = ⊥
IsRefusedWrite m ended batch Invalid fails = ⊥
IsRefusedWrite m ended batch StaleNumber fails = ⊥
IsRefusedWrite m ended batch (Other code) fails = ⊥

-- a sync is refused by storage, without a path, or for memory, and that fails the engine
abbrev pub IsRefusedSync : Reason → Bool → Type 0
IsRefusedSync (Io kind path) fails = (path ≡ []) × (fails ≡ true)
IsRefusedSync Memory fails = fails ≡ true
IsRefusedSync reason fails = ⊥

-- the result of writing a batch at these contents, and whether the engine fails in it
abbrev pub IsWriteAnswer : Contents → Bool → Batch → Answer → Bool → Type 0
IsWriteAnswer m ended batch (Size (Ok size)) fails =
    IsValidBatch m batch × (size ≡ record_len batch) × (fails ≡ false)
IsWriteAnswer m ended batch (Size (Err reason)) fails = IsRefusedWrite m ended batch reason fails
IsWriteAnswer m ended batch answer fails = ⊥

-- a write is refused for its arguments, which fails no engine
abbrev pub IsRefusedAs : Reason → Answer → Bool → Type 0
IsRefusedAs reason answer fails = (answer ≡ Size (Err reason)) × (fails ≡ false)

-- the result of a caller's write: refused as it meets a group's number, or that of `written`
abbrev pub IsCallersAnswer : Bool → Contents → Bool → Batch → Answer → Bool → Type 0
IsCallersAnswer true m ended written answer fails = IsRefusedAs Invalid answer fails
IsCallersAnswer false m ended written answer fails = IsWriteAnswer m ended written answer fails

-- the result of a write with old numbers: nothing is written, and a failed sync fails the engine
abbrev pub IsOldAnswer : Bool → Answer → Bool → Type 0
IsOldAnswer sync (Size (Ok size)) fails = (size ≡ 0) × (fails ≡ false)
IsOldAnswer sync (Size (Err (Io kind path))) fails =
    (sync ≡ true) × (path ≡ []) × (fails ≡ true)
IsOldAnswer sync (Size (Err Memory)) fails = (sync ≡ true) × (fails ≡ true)
IsOldAnswer sync answer fails = ⊥

-- the result of a write with numbers, by whether they are unfit, all old, all new, or mixed
abbrev pub IsOnceAnswer : (unfit old new : Bool) → Contents → Bool → Batch → List Pair → Bool
    → Answer → Bool → Type 0
IsOnceAnswer true old new m ended batch pairs sync answer fails =
    IsRefusedAs Invalid answer fails
IsOnceAnswer false true new m ended batch pairs sync answer fails = IsOldAnswer sync answer fails
IsOnceAnswer false false true m ended batch pairs sync answer fails =
    IsCallersAnswer (meets_number m batch) m ended (numbered batch pairs) answer fails
IsOnceAnswer false false false m ended batch pairs sync answer fails =
    IsRefusedAs StaleNumber answer fails

-- why a purge is refused, and if that fails the engine, as a lack of space always does
abbrev pub IsRefusedPurge : Reason → Bool → Type 0
IsRefusedPurge (Io kind path) fails = path ≡ []
IsRefusedPurge TryAgain fails = fails ≡ true
IsRefusedPurge Memory fails = Unit {0}
IsRefusedPurge Range fails = Unit {0}
IsRefusedPurge Invalid fails = Unit {0}
IsRefusedPurge reason fails = ⊥

-- the result of a purge, and whether the engine fails in it
abbrev pub IsPurgeAnswer : Answer → Bool → Type 0
IsPurgeAnswer (Done (Ok _)) fails = fails ≡ false
IsPurgeAnswer (Done (Err reason)) fails = IsRefusedPurge reason fails
IsPurgeAnswer answer fails = ⊥

-- the result of a sync, and whether the engine fails in it
abbrev pub IsSyncAnswer : Answer → Bool → Type 0
IsSyncAnswer (Done (Ok _)) fails = fails ≡ false
IsSyncAnswer (Done (Err reason)) fails = IsRefusedSync reason fails
IsSyncAnswer answer fails = ⊥

-- the result of a `get` with this value, which fails no engine
abbrev pub IsGetAnswer : Option (List ℕ) → Answer → Bool → Type 0
IsGetAnswer is (Value (Ok value)) fails = (value ≡ is) × (fails ≡ false)
IsGetAnswer is (Value (Err reason)) fails = (reason ≡ Memory) × (fails ≡ false)
IsGetAnswer is answer fails = ⊥

-- the result of a read of this index, which fails no engine
abbrev pub IsIndexAnswer : Option ℕ → Answer → Bool → Type 0
IsIndexAnswer is (Index index) fails = (index ≡ is) × (fails ≡ false)
IsIndexAnswer is answer fails = ⊥

-- the result of a call of a usable engine at these contents, and whether the engine fails in it
abbrev pub IsAnswer : Contents → Bool → Asked → Answer → Bool → Type 0
IsAnswer m ended (Write batch sync) answer fails =
    IsCallersAnswer (meets_number m batch) m ended batch answer fails
IsAnswer m ended (WriteOnce batch pairs sync) answer fails =
    IsOnceAnswer (are_unfit pairs) (are_old m pairs) (are_new m pairs) m ended batch pairs sync
    answer fails
IsAnswer m ended Sync answer fails = IsSyncAnswer answer fails
IsAnswer m ended (Purge barrier) answer fails = IsPurgeAnswer answer fails
IsAnswer m ended (Get group key) answer fails =
    IsGetAnswer ((shown m).value group key) answer fails
IsAnswer m ended (First group) answer fails =
    IsIndexAnswer (first_index_of (m.entries group)) answer fails
IsAnswer m ended (Last group) answer fails =
    IsIndexAnswer (last_index_of (m.entries group)) answer fails

-- the result of a call of a failed engine, for which an index may be any
abbrev pub IsAnswerOfFailed : Asked → Answer → Type 0
IsAnswerOfFailed (Write batch sync) answer = answer ≡ Size (Err Failed)
IsAnswerOfFailed (WriteOnce batch pairs sync) answer = answer ≡ Size (Err Failed)
IsAnswerOfFailed Sync answer = answer ≡ Done (Err Failed)
IsAnswerOfFailed (Purge barrier) answer = answer ≡ Done (Err Failed)
IsAnswerOfFailed (Get group key) answer = answer ≡ Value (Err Failed)
IsAnswerOfFailed (First group) answer = (index : Option ℕ) × (answer ≡ Index index)
IsAnswerOfFailed (Last group) answer = (index : Option ℕ) × (answer ≡ Index index)

-- the result of a call of an engine that had failed or not, and whether it has failed afterwards
abbrev pub IsLegalCall : Contents → Bool → Bool → Event → Bool → Type 0
IsLegalCall m ended false event fails = IsAnswer m ended event.asked event.answer fails
IsLegalCall m ended true event fails =
    IsAnswerOfFailed event.asked event.answer × (fails ≡ true)

-- each call is legal at what the calls before it leave; `fails`: the engine has failed at the end
abbrev pub IsLegalTo : Contents → Bool → Bool → List Event → Bool → Type 0
IsLegalTo m ended failed [] fails = fails ≡ failed
IsLegalTo m ended failed (event ∷ later) fails = (next : Bool)
    × IsLegalCall m ended failed event next
    × IsLegalTo (after_event m event) ended next later fails

-- one thread could have made this history, from an engine that had `failed` to one that `fails`
abbrev pub IsLegalHistory : Contents → Bool → Bool → List Event → Bool → Type 0
IsLegalHistory m ended failed events fails = ∥ IsLegalTo m ended failed events fails ∥₁

-- the result is `Io` or `TryAgain`
abbrev pub is_storage_refusal : Answer → Bool
is_storage_refusal (Size (Err (Io kind path))) = true
is_storage_refusal (Size (Err TryAgain)) = true
is_storage_refusal (Done (Err (Io kind path))) = true
is_storage_refusal (Done (Err TryAgain)) = true
is_storage_refusal (Value (Err (Io kind path))) = true
is_storage_refusal (Value (Err TryAgain)) = true
is_storage_refusal answer = false

-- one more if a result is a refusal by storage
abbrev pub refused : Bool → ℕ → ℕ
refused true count = suc count
refused false count = count

-- how many results are refusals by storage
abbrev pub storage_refusals : List Event → ℕ
storage_refusals [] = 0
storage_refusals (event ∷ later) =
    refused (is_storage_refusal event.answer) (storage_refusals later)
