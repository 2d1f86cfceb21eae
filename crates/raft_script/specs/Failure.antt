-- When operations fail an engine, and which refusals storage counts.
use Rattle.std.specs.Prelude.{◌≡◌, ◌⊎◌, ℕ, Bool, true, false, List, Result, Ok, Err, is_ok, IsErrAnd, cond}
use Rattle.std.specs.List.{count_by, sum_by}
use Rattle.raft_base.specs.declared.errors.Fault.{Fault}
use Rattle.raft_base.specs.declared.errors.Fault.TheVariants as fault
use Rattle.raft_env.specs.Refusal.{NoFewer, Refusals, RoseBy}
use Rattle.raft_script.specs.Run.{IsUnbuilt, IsUnbuiltGroup}
use Rattle.raft_script.specs.declared.operation.Op.{Op}
use Rattle.raft_script.specs.declared.operation.Op.TheVariants as operation
use Rattle.raft_script.specs.declared.operation.Op.TheVariants.{Write, WriteGroup, WriteOnce, Sync, Get, CompactTo, First, Last, RewriteAppend, RewriteRewrite, PurgeStale, Purge}
use Rattle.raft_script.specs.declared.operation.Outcome.{Outcome}
use Rattle.raft_script.specs.declared.operation.Outcome.TheVariants as reply
use Rattle.raft_script.specs.declared.operation.Outcome.TheVariants.{Size, Sizes, Done, Value, Count, Index, Dropped, ToCompact}

-- the fault is by storage, or for lack of memory
abbrev pub IsStorageOrMemory : Fault → Type 0
IsStorageOrMemory (fault.Io kind path) = Unit {0}
IsStorageOrMemory fault.Memory = Unit {0}
IsStorageOrMemory _ = ⊥

-- the fault is by storage, for lack of memory, or for lack of space
abbrev pub IsPurgeFailure : Fault → Type 0
IsPurgeFailure fault.TryAgain = Unit {0}
IsPurgeFailure e = IsStorageOrMemory e

-- IsPurgeFailure, or any cause of a purge while an atomic group is open
abbrev pub IsRenewalFailure : Fault → Type 0
IsRenewalFailure fault.Range = Unit {0}
IsRenewalFailure (fault.InvalidArgument text) = Unit {0}
IsRenewalFailure e = IsPurgeFailure e

-- the result of a call, and whether the engine fails in it; Other: faults before it is reached
pub record FailsFor {T : Type 0} (IsCause : Fault → Type 0) (failed : Bool)
    (answer : Result T Fault) (fails : Bool) (Other : Fault → Type 0) : Type 0 where
  -- a failed engine stays failed
  pub still : failed ≡ true → fails ≡ true
  -- `Failed` is returned only by an engine that had failed
  pub only_failed : answer ≡ Err fault.Failed → failed ≡ true
  pub refused : failed ≡ true → (answer ≡ Err fault.Failed) ⊎ IsErrAnd answer Other
  -- it fails only for such a cause
  pub cause : failed ≡ false → fails ≡ true → IsErrAnd answer IsCause

-- FailsFor, by storage or for lack of memory
abbrev pub FailsBy : {T : Type 0} → Bool → Result T Fault → Bool → (Fault → Type 0) → Type 0
FailsBy failed answer fails Other = FailsFor IsStorageOrMemory failed answer fails Other

-- FailsFor, in a purge, for such a cause
abbrev pub FailsInPurge : {T : Type 0} → (Fault → Type 0) → Bool → Result T Fault → Bool → Type 0
FailsInPurge IsCause failed answer fails = FailsFor IsCause failed answer fails (λ _. ⊥)

-- FailsBy, and the engine has failed or not as before
abbrev pub IsSteadyBy : {T : Type 0} → Bool → Result T Fault → Bool → Type 0
IsSteadyBy failed answer fails = FailsBy failed answer fails (λ _. ⊥) × (fails ≡ failed)

-- whether an engine fails in an operation with this result; a failed sync fails it, a read doesn't
abbrev pub IsFailing : Bool → Op → Outcome → Bool → Type 0
IsFailing failed (Write acts sync) (Size answer) fails =
    FailsBy failed answer fails (IsUnbuilt acts.items)
IsFailing failed (WriteOnce acts pairs sync) (Size answer) fails =
    FailsBy failed answer fails (IsUnbuilt acts.items)
IsFailing failed (WriteGroup parts) (Sizes answer) fails =
    FailsBy failed answer fails (IsUnbuiltGroup parts.items)
IsFailing failed Sync (Done answer) fails =
    FailsBy failed answer fails (λ _. ⊥) × (is_ok answer ≡ false → fails ≡ true)
IsFailing failed (Get group key) (Value answer) fails = IsSteadyBy failed answer fails
IsFailing failed (CompactTo group index) (Count answer) fails =
    FailsBy failed answer fails (λ _. ⊥)
IsFailing failed (operation.Entry group index) (reply.Entry answer) fails =
    IsSteadyBy failed answer fails
IsFailing failed (First group) (Index index) fails = fails ≡ failed
IsFailing failed (Last group) (Index index) fails = fails ≡ failed
IsFailing failed operation.Groups (reply.Groups answer) fails = IsSteadyBy failed answer fails
IsFailing failed (RewriteAppend watermark step) (Dropped answer) fails =
    FailsInPurge IsPurgeFailure failed answer fails
IsFailing failed RewriteRewrite (Dropped answer) fails =
    FailsInPurge IsRenewalFailure failed answer fails
IsFailing failed PurgeStale (Dropped answer) fails = FailsInPurge IsPurgeFailure failed answer fails
IsFailing failed Purge (ToCompact answer) fails =
    FailsInPurge IsRenewalFailure failed answer fails
IsFailing failed _ _ fails = ⊥

-- the result is a refusal by storage, also for lack of space
abbrev pub is_io : {T : Type 0} → Result T Fault → Bool
is_io (Err (fault.Io kind path)) = true
is_io (Err fault.TryAgain) = true
is_io _ = false

-- the operation was refused by storage
abbrev pub is_refused_by_storage : Outcome → Bool
is_refused_by_storage (Size answer) = is_io answer
is_refused_by_storage (Sizes answer) = is_io answer
is_refused_by_storage (Done answer) = is_io answer
is_refused_by_storage (Value answer) = is_io answer
is_refused_by_storage (Count answer) = is_io answer
is_refused_by_storage (reply.Entry answer) = is_io answer
is_refused_by_storage (Index index) = false
is_refused_by_storage (reply.Groups answer) = is_io answer
is_refused_by_storage (Dropped answer) = is_io answer
is_refused_by_storage (ToCompact answer) = is_io answer

-- how many results of an operation are refusals by storage: for a group, those of its batches
abbrev pub io_in : Outcome → ℕ
io_in (Sizes (Ok answers)) = count_by is_io answers.items
io_in outcome = cond (is_refused_by_storage outcome) 1 0

-- how many results of all operations are refusals by storage
abbrev pub io_count : List Outcome → ℕ
io_count outcomes = sum_by io_in outcomes

-- storage's count rose by as many results as it refused, and no count fell
abbrev pub Refuses : Outcome → Refusals → Refusals → Type 0
Refuses (Sizes (Ok answers)) old new =
    NoFewer old new × RoseBy (count_by is_io answers.items) old new
Refuses outcome old new = NoFewer old new × (is_refused_by_storage outcome ≡ true
    → RoseBy 1 old new)
