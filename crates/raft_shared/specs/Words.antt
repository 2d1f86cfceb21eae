-- Calls, replies and receipts, in the words of a history.
use Rattle.std.specs.Arc.{arc_value}
use Rattle.std.specs.declared.alloc.Global.{Global}
use Rattle.std.specs.declared.sync.Arc.{Arc}
use Rattle.std.specs.String.{string_bytes}
use Rattle.std.specs.Prelude.{ℕ, suc, List, [], ◌∷◌, ◌==◌, Result, Ok, Err, Vec, box_value, option_map, if◌then◌else◌}
use Rattle.raft_base.specs.Fault.{fault_code}
use Rattle.raft_base.specs.declared.errors.Fault.{Fault}
use Rattle.raft_base.specs.declared.errors.Fault.TheVariants as fault
use Rattle.raft_shared.specs.History.{Answer, Asked, Done, Event, Failed, First, Gap, Get, Index, Invalid, Io, Last, Memory, Other, Purge, Range, Reason, Size, StaleNumber, Sync, TryAgain, Value, Write, WriteOnce}
use Rattle.raft_shared.specs.declared.call.Call.{Call}
use Rattle.raft_shared.specs.declared.call.Call.TheVariants as call
use Rattle.raft_shared.specs.declared.call.Reply.{Reply}
use Rattle.raft_shared.specs.declared.call.Reply.TheVariants as reply
use Rattle.raft_shared.specs.declared.call.Recorded.{Recorded}
use Rattle.raft_shared.specs.declared.call.Receipt.{Receipt}

-- the reason for a fault; that of an `Io` has its path
abbrev pub reason_of : Fault → Reason
reason_of (fault.Io kind text) = Io kind (string_bytes text)
reason_of fault.TryAgain = TryAgain
reason_of fault.Gap = Gap
reason_of fault.Range = Range
reason_of fault.Failed = Failed
reason_of fault.Memory = Memory
reason_of (fault.InvalidArgument text) = Invalid
reason_of fault.StaleNumber = StaleNumber
reason_of e = Other (fault_code e)

-- the reason without the path of an `Io`
abbrev pub without_path : Reason → Reason
without_path (Io kind path) = Io kind []
without_path reason = reason

-- the result in a reply, as a history has it
abbrev pub reply_by : {T X : Type 0} → (T → X) → Result T Fault → Result X Reason
reply_by of (Ok x) = Ok (of x)
reply_by of (Err e) = Err (reason_of e)

-- the engine's result, as a history has it: without the path of an `Io`
abbrev pub answer_by : {T X : Type 0} → (T → X) → Result T Fault → Result X Reason
answer_by of (Ok x) = Ok (of x)
answer_by of (Err e) = Err (without_path (reason_of e))

-- a value that the history, the seat and the caller share
abbrev pub shared_bytes : Arc (Vec ℕ Global) Global → List ℕ
shared_bytes value = (arc_value value).items

-- a call and its arguments, as a history has them
abbrev pub asked_of : Call → Asked
asked_of (call.Write batch sync) = Write (box_value batch).items sync
asked_of (call.WriteOnce batch pairs sync) =
    WriteOnce (box_value batch).items pairs.items sync
asked_of call.Sync = Sync
asked_of (call.Purge barrier) = Purge barrier
asked_of (call.Get group key) = Get group key.items
asked_of (call.First group) = First group
asked_of (call.Last group) = Last group

-- a reply, as a history has it
abbrev pub answer_of : Reply → Answer
answer_of (reply.Size size) = Size (reply_by (λ n. n) size)
answer_of (reply.Done done) = Done (reply_by (λ _. tt) done)
answer_of (reply.Value value) = Value (reply_by (option_map shared_bytes) value)
answer_of (reply.Index index) = Index index

-- a recorded call, as a history has it
abbrev pub event_of : Recorded → Event
event_of recorded = record {
  seat = recorded.seat;
  asked = asked_of (arc_value recorded.call);
  answer = answer_of recorded.reply;
}

-- what a receipt says of a call: its number in the history, its arguments and its result
pub record Told : Type 0 where
  pub number : ℕ
  pub asked : Asked
  pub answer : Answer

-- what this receipt says
abbrev pub told_by : Receipt → Told
told_by receipt = record {
  number = receipt.number;
  asked = asked_of (arc_value receipt.call);
  answer = answer_of receipt.reply;
}

-- what receipts say of a seat's calls in a history whose first call has this number
abbrev pub calls_of : ℕ → ℕ → List Event → List Told
calls_of seat number [] = []
calls_of seat number (event ∷ later) =
    if event.seat == seat
    then record { number = number; asked = event.asked; answer = event.answer }
    ∷ calls_of seat (suc number) later
    else calls_of seat (suc number) later
