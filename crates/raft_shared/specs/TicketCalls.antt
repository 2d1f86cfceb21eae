-- What a beginning of the history shows of a batch and of a sync after it.
use Rattle.std.specs.Prelude.{◌≡◌, ◌⊎◌, ◌++◌, ◌∷◌, [], ℕ, Bool, true, false, List, Option, Some, None, Ok, Err, slice_get}
use Rattle.raft_base.specs.declared.errors.Fault.{Fault}
use Rattle.raft_base.specs.declared.errors.Fault.TheVariants as fault
use Rattle.raft_records.specs.Item.{Batch}
use Rattle.raft_shared.specs.History.{Answer, Asked, Done, Event, Io, Memory, Size, Sync, Write}
use Rattle.raft_shared.specs.Shared.{receipts_of}
use Rattle.raft_shared.specs.Words.{reason_of, told_by}
use Rattle.raft_shared.specs.declared.call.Receipt.{Receipt}
use Rattle.raft_shared.specs.declared.seat.Seat.{Seat}

-- the call of a seat that has this receipt
abbrev pub event_by : ℕ → Receipt → Event
event_by seat receipt = record {
  seat = seat;
  asked = (told_by receipt).asked;
  answer = (told_by receipt).answer;
}

-- the result of a sync that returned `Ok`
abbrev pub is_done : Answer → Bool
is_done (Done (Ok done)) = true
is_done answer = false

-- a write without a sync was accepted
abbrev pub is_accepted_write : Asked → Answer → Bool
is_accepted_write (Write batch false) (Size (Ok size)) = true
is_accepted_write asked answer = false

-- a sync returned `Ok`
abbrev pub is_answered_sync : Asked → Answer → Bool
is_answered_sync Sync answer = is_done answer
is_answered_sync asked answer = false

-- there is a call, and it is an accepted write
abbrev pub is_write : Option Event → Bool
is_write (Some event) = is_accepted_write event.asked event.answer
is_write None = false

-- there is a call, and it is a sync that returned `Ok`
abbrev pub is_sync : Option Event → Bool
is_sync (Some event) = is_answered_sync event.asked event.answer
is_sync None = false

-- an accepted write is at this place
abbrev pub is_write_at : ℕ → List Event → Bool
is_write_at number events = is_write (slice_get events number)

-- a sync that returned `Ok` is at this place
abbrev pub is_sync_at : ℕ → List Event → Bool
is_sync_at number events = is_sync (slice_get events number)

-- the write of this seat's batch is at this place, accepted with this length
abbrev pub IsWrittenAt : ℕ → ℕ → Batch → ℕ → List Event → Type 0
IsWrittenAt number seat batch size events = slice_get events number
    ≡ Some (record { seat = seat; asked = Write batch false; answer = Size (Ok size) })

-- the seat got one receipt: of this call, at this place of the history, with this result
abbrev pub IsToldAt : ℕ → Asked → Answer → Seat → Seat → Type 0
IsToldAt number asked answer old new = receipts_of new
    ≡ receipts_of old ++ record { number = number; asked = asked; answer = answer } ∷ []

-- the seat got one receipt: of this call, with this result
abbrev pub IsTold : Asked → Answer → Seat → Seat → Type 0
IsTold asked answer old new = (number : ℕ) × IsToldAt number asked answer old new

-- the seat got no receipt
abbrev pub IsToldNothing : Seat → Seat → Type 0
IsToldNothing old new = receipts_of new ≡ receipts_of old

-- the call didn't reach the engine: the history is full, or memory ran out
abbrev pub IsUnasked : Seat → Seat → Fault → Type 0
IsUnasked old new e = ((e ≡ fault.TrailFull) ⊎ (e ≡ fault.Memory)) × IsToldNothing old new

-- the call reached the engine, and the book has other calls there
abbrev pub IsAstray : Asked → Seat → Seat → Fault → Type 0
IsAstray asked old new e = (e ≡ fault.Layer) × ((said : Answer) × IsTold asked said old new)

-- the call didn't reach the engine, or has this result and a receipt, or the book has other calls
abbrev pub FailsAs : Asked → Answer → Seat → Seat → Fault → Type 0
FailsAs asked answer old new e = IsUnasked old new e ⊎ IsTold asked answer old new
    ⊎ IsAstray asked old new e

-- the seat got the receipt of the successful sync, or another seat did
abbrev pub MayBeToldSync : Seat → Seat → Type 0
MayBeToldSync old new = IsToldNothing old new ⊎ IsTold Sync (Done (Ok tt)) old new

-- a refusal after which the batch still has its items, since the engine can't fail in it
abbrev pub is_kept_after : Answer → Bool
is_kept_after (Size (Ok size)) = false
is_kept_after (Size (Err (Io kind path))) = false
is_kept_after (Size (Err Memory)) = false
is_kept_after (Size (Err reason)) = true
is_kept_after answer = false

-- the batch still has its items if the seat got the receipt of such a refusal
abbrev pub KeepsRefused : Batch → Batch → Seat → Seat → Type 0
KeepsRefused items rest old new = (said : Answer) → IsTold (Write items false) said old new
    → is_kept_after said ≡ true → rest ≡ items

-- the seat got the receipt of the write, which is at this place, and then maybe of the sync
abbrev pub IsToldInTurn : ℕ → Batch → ℕ → Seat → Seat → Type 0
IsToldInTurn number items size old new = (written : Seat)
    × IsToldAt number (Write items false) (Size (Ok size)) old written
    × MayBeToldSync written new

-- the write failed so; or it was accepted, the seat got its receipt, and then the sync failed so
abbrev pub FailsInTurn : Batch → Batch → Seat → Seat → Fault → Type 0
FailsInTurn items rest old new e =
    FailsAs (Write items false) (Size (Err (reason_of e))) old new e
    ⊎ ((written : Seat) × (size : ℕ) × IsTold (Write items false) (Size (Ok size)) old written
    × (rest ≡ []) × FailsAs Sync (Done (Err (reason_of e))) written new e)
