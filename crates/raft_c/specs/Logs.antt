-- What calls do to the log of a handle.
use Rattle.std.specs.Prelude.{◌≡◌, ℕ, Bool, true, false, List, [], ◌∷◌, length, take, Option, Some, None, ℤ, pos}
use Rattle.raft_disk.specs.Mirror.{mirror_directory, mirror_moments, mirror_refusals}
use Rattle.raft_env.specs.Directory.{Directory}
use Rattle.raft_env.specs.Refusal.{no_refusals}
use Rattle.raft_memory.specs.Settled.{settled_files}
use Rattle.raft_log_engine.specs.Engine.{directory_of, moments_of}
use Rattle.raft_c_log.specs.Closing.{IsClosedAs}
use Rattle.raft_c_log.specs.Opening.{IsOpenedBy, IsUnopened, KeepsNamed}
use Rattle.raft_c_log.specs.Outcomes.{HasEnded, IsReply}
use Rattle.raft_c_log.specs.declared.answer.Answer.{Answer}
use Rattle.raft_c_log.specs.declared.calls.Change.{Change}
use Rattle.raft_c_log.specs.declared.calls.Query.{Query}
use Rattle.raft_c.specs.Found.{IsFoundBy}
use Rattle.raft_c.specs.declared.loading.Found.{Found}
use Rattle.raft_c.specs.declared.log.Log.{Log}
use Rattle.raft_c.specs.declared.log.Standing.{Standing}
use Rattle.raft_c.specs.declared.log.Standing.TheVariants.{Broken, Settled, Waiting}
use Rattle.raft_c.specs.declared.log.State.{State}
use Rattle.raft_c.specs.declared.log.State.TheVariants.{Loading, Open, Closed, Ended}

-- Before a log is open.

-- nothing has been found
abbrev pub HasFoundNone : State → Type 0
HasFoundNone (Loading loading) = (loading.files.items ≡ []) × (loading.folders.items ≡ [])
HasFoundNone _ = ⊥

-- a log was begun; if memory ran out there is none
abbrev pub HasBegun : ℤ → Option Log → Type 0
HasBegun code (Some log) = (code ≡ pos 0) × (log.standing ≡ Settled) × HasFoundNone log.state
HasBegun code None = code ≡ pos 12

-- with this code something found was added, or not; a log in another state doesn't change
abbrev pub IsAdded : List ℕ → Found → ℤ → State → State → Type 0
IsAdded path found code (Loading old) (Loading new) = IsFoundBy path found code old new
IsAdded path found code (Loading old) _ = ⊥
IsAdded path found code old new = (code ≡ pos 1) × (new ≡ old)

-- IsAdded, and nothing else of the log changes
abbrev pub HasAdded : List ℕ → Found → ℤ → Option Log → Option Log → Type 0
HasAdded path found code (Some old) (Some new) = IsAdded path found code old.state new.state
    × (new.standing ≡ old.standing) × (new.answer ≡ old.answer)
HasAdded path found code _ _ = ⊥

-- an opening with this text and code: an open log, files that are left, or no memory for those
abbrev pub IsOpeningOver : List ℕ → Directory → ℤ → State → Type 0
IsOpeningOver settings n code (Open log) = (code ≡ pos 0) × IsOpenedBy settings n log.engine
    × KeepsNamed settings n (n ∷ []) (moments_of log.engine) (directory_of log.engine)
IsOpeningOver settings n code (Closed files) =
    IsUnopened settings code n no_refusals (mirror_refusals files)
    × KeepsNamed settings n (n ∷ []) (mirror_moments files) (mirror_directory files)
IsOpeningOver settings n code Ended = code ≡ pos 12
IsOpeningOver settings n code (Loading found) = ⊥

-- IsOpeningOver the files that were found, for a log that was begun; else nothing changes
abbrev pub IsOpening : List ℕ → State → State → ℤ → Type 0
IsOpening settings (Loading found) new code =
    IsOpeningOver settings (settled_files found.files.items found.folders.items) code new
IsOpening settings old new code = (code ≡ pos 1) × (new ≡ old)

-- While it is open.

-- a change of an open log ended with this code; a log in another state doesn't change
abbrev pub IsChange : Change → State → State → Answer → ℤ → Type 0
IsChange change (Open old) (Open new) answer code =
    HasEnded change code old.engine new.engine answer
IsChange change (Open old) _ answer code = ⊥
IsChange change old new answer code = (code ≡ pos 1) × (new ≡ old)

-- an open log was closed with this code, and its files are left; in another state nothing is left
abbrev pub IsClose : State → State → ℤ → Type 0
IsClose (Open old) (Closed files) code = IsClosedAs code old.engine files
IsClose (Open old) _ code = ⊥
IsClose old new code = (code ≡ pos 0) × (new ≡ Ended)

-- a query of an open log has this code and result; a log in another state doesn't change
abbrev pub IsReplied : Query → State → State → Answer → ℤ → Type 0
IsReplied q (Open old) (Open new) answer code = IsReply q code old.engine new.engine answer
IsReplied q (Open old) _ answer code = ⊥
IsReplied q old new answer code = (code ≡ pos 1) × (new ≡ old)

-- Orders.

-- a code waits, and Comes holds of it
abbrev pub IsWaiting : (ℤ → Type 0) → Standing → Type 0
IsWaiting Comes (Waiting code) = Comes code
IsWaiting Comes _ = ⊥

-- the call's code waits for its orders; if one waits already or the log is broken, nothing changes
pub record GivesOrders (Comes : ℤ → Type 0) (old new : Log) : Type 0 where
  pub waits : old.standing ≡ Settled → IsWaiting Comes new.standing
  pub unchanged : (old.standing ≡ Settled → ⊥) → new ≡ old

-- the log of a handle gets an opening, whose code waits
abbrev pub OpensAfter : List ℕ → Option Log → Option Log → Type 0
OpensAfter settings (Some old) (Some new) =
    GivesOrders (IsOpening settings old.state new.state) old new
OpensAfter settings _ _ = ⊥

-- the log of a handle gets a close, whose code waits
abbrev pub EndsAfter : Option Log → Option Log → Type 0
EndsAfter (Some old) (Some new) = GivesOrders (IsClose old.state new.state) old new
EndsAfter _ _ = ⊥

-- the log of a handle gets a change, whose code waits
abbrev pub WaitsAfter : Change → Option Log → Option Log → Type 0
WaitsAfter change (Some old) (Some new) =
    GivesOrders (IsChange change old.state new.state new.answer) old new
WaitsAfter change _ _ = ⊥

-- the waiting code is returned, if there is one; else 11
abbrev pub IsGivenOut : Standing → ℤ → Standing → Type 0
IsGivenOut (Waiting waiting) code new = (code ≡ waiting) × (new ≡ Settled)
IsGivenOut old code new = (code ≡ pos 11) × (new ≡ old)

-- a caller that carried out the orders gets the code; one that couldn't leaves the log broken
pub record IsSettled (carried_out : Bool) (code : ℤ) (old new : Log) : Type 0 where
  pub given : carried_out ≡ true → IsGivenOut old.standing code new.standing
  pub breaks : carried_out ≡ false → (code ≡ pos 3) × (new.standing ≡ Broken)
  pub state : new.state ≡ old.state
  pub answer : new.answer ≡ old.answer

-- IsSettled, for the log of a handle
abbrev pub HasSettled : Bool → ℤ → Option Log → Option Log → Type 0
HasSettled carried_out code (Some old) (Some new) = IsSettled carried_out code old new
HasSettled carried_out code _ _ = ⊥

-- a query returns only while no order waits
pub record IsRead (q : Query) (code : ℤ) (old new : Log) : Type 0 where
  pub settled : old.standing ≡ Settled → IsReplied q old.state new.state new.answer code
  pub waits : (old.standing ≡ Settled → ⊥) → (code ≡ pos 11) × (new ≡ old)
  pub standing : new.standing ≡ old.standing

-- IsRead, for the log of a handle
abbrev pub HasRead : Query → ℤ → Option Log → Option Log → Type 0
HasRead q code (Some old) (Some new) = IsRead q code old new
HasRead q code _ _ = ⊥

-- the buffer has as much of the last result as fits, and `len` is the length of all of it
abbrev pub IsCopied : Option Log → List ℕ → List ℕ → ℕ → Type 0
IsCopied (Some log) old new len = (len ≡ length log.answer.bytes.items)
    × (take len new ≡ take (length old) log.answer.bytes.items)
IsCopied None old new len = ⊥

-- these are the numbers of the last result
abbrev pub AreTold : Option Log → ℕ → ℕ → Type 0
AreTold (Some log) first second = log.answer.numbers ≡ (first, second)
AreTold None first second = ⊥
