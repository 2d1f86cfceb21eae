-- What a write that acts once does to an engine.
use Rattle.std.specs.Prelude.{◌≡◌, ◌⊎◌, ◌↔◌, ℕ, Bool, true, false, List, [], Some, Result, Err, IfErr, IsErrAnd, MatchResult, if◌then◌else◌}
use Rattle.raft_base.specs.Fault.{fault_code}
use Rattle.raft_base.specs.declared.errors.Fault.{Fault}
use Rattle.raft_base.specs.declared.errors.Fault.TheVariants as fault
use Rattle.raft_env.specs.declared.env.FileSystem.{Ghosts}
use Rattle.raft_crash_laws.specs.Crash.{pending_of, written_batch}
use Rattle.raft_once.specs.Numbers.{Pair, are_new, are_old, are_unfit, has_numbers, meets_number, numbered}
use Rattle.raft_records.specs.Contents.{Contents}
use Rattle.raft_records.specs.Item.{Batch}
use Rattle.raft_records.specs.Validity.{IsValidBatch, batch_refusal}
use Rattle.raft_log_engine.specs.Advance.{Advances, state_of}
use Rattle.raft_log_engine.specs.Calls.{IsWrite}
use Rattle.raft_log_engine.specs.Durability.{StaysFailed, accepted_by, covered_by}
use Rattle.raft_log_engine.specs.Engine.{contents_of, has_failed}
use Rattle.raft_log_engine.specs.declared.engine.Engine.{Engine}

-- why a caller's batch is refused: it changes a group's number, or an item before that doesn't fit
abbrev pub IsNumberRefusal : Contents → Batch → Fault → Type 0
IsNumberRefusal m items (fault.InvalidArgument text) = meets_number m items ≡ true
IsNumberRefusal m items e = (meets_number m items ≡ false) × (batch_refusal m items ≡ Some e)

-- what a call may write: the batch with its numbers if all are new, else nothing
abbrev pub acting_batch : Contents → Batch → List Pair → Batch
acting_batch m items pairs =
    if are_unfit pairs then [] else if has_numbers items then []
    else if are_new m pairs then numbered items pairs else []

-- why a batch with new numbers is refused before any of it is written: an item, or memory
abbrev pub IsOnceRefusal : Contents → Batch → Fault → Type 0
IsOnceRefusal m items (fault.InvalidArgument text) = meets_number m items ≡ true
IsOnceRefusal m items fault.Gap =
    (meets_number m items ≡ false) × (batch_refusal m items ≡ Some fault.Gap)
IsOnceRefusal m items fault.Range =
    (meets_number m items ≡ false) × (batch_refusal m items ≡ Some fault.Range)
IsOnceRefusal m items fault.Memory = (has_numbers items ≡ false) × IsValidBatch m items
IsOnceRefusal m items _ = ⊥

module _ {F H R W : Type 0} {g : Ghosts F H R W} where
  -- refused: there are no numbers, or two of one group
  pub record IsUnfitOnce (pairs : List Pair) (old new : Engine F H R W g) (result : Result ℕ Fault)
      : Type 0 where
    pub unfit : are_unfit pairs ≡ true
    pub refused : IsErrAnd result (λ e. fault_code e ≡ 1)
    pub same : new ≡ old

  -- no number is greater than the one that its group keeps: the call is a write without items
  pub record IsOldOnce (pairs : List Pair) (sync : Bool) (old new : Engine F H R W g)
      (result : Result ℕ Fault) : Type 0 where
    pub fit : are_unfit pairs ≡ false
    pub numbers : are_old (contents_of old) pairs ≡ true
    pub write : IsWrite [] [] sync old new result

  -- refused: some numbers are greater than those that their groups keep, and others aren't
  pub record IsStaleOnce (pairs : List Pair) (old new : Engine F H R W g) (result : Result ℕ Fault)
      : Type 0 where
    pub fit : are_unfit pairs ≡ false
    pub not_old : are_old (contents_of old) pairs ≡ false
    pub not_new : are_new (contents_of old) pairs ≡ false
    pub refused : result ≡ Err fault.StaleNumber
    pub same : new ≡ old

  -- each number is new, and the batch is refused before any of it is written
  pub record IsRefusedOnce (items : Batch) (pairs : List Pair) (old new : Engine F H R W g)
      (result : Result ℕ Fault) : Type 0 where
    pub fit : are_unfit pairs ≡ false
    pub numbers : are_new (contents_of old) pairs ≡ true
    pub cause : IsErrAnd result (IsOnceRefusal (contents_of old) items)
    pub same : new ≡ old

  -- each number is new, and a copy of the batch is written with the numbers after its items
  pub record IsActingOnce (items : Batch) (pairs : List Pair) (sync : Bool)
      (old new : Engine F H R W g) (result : Result ℕ Fault) : Type 0 where
    pub fit : are_unfit pairs ≡ false
    pub numbers : are_new (contents_of old) pairs ≡ true
    pub plain : has_numbers items ≡ false
    pub valid : IsValidBatch (contents_of old) items
    pub copied : Batch
    pub write : IsWrite (numbered items pairs) copied sync old new result
    pub taken : IfErr result (λ e. fault_code e ≡ 1 → ⊥)

  -- a write of a batch with these items and numbers, of which `rest` is left afterwards
  pub record IsWriteOnce (items rest : Batch) (pairs : List Pair) (sync : Bool)
      (old new : Engine F H R W g) (result : Result ℕ Fault) : Type 0 where
    pub answer :
        has_failed old ≡ false
        → IsUnfitOnce pairs old new result ⊎ IsOldOnce pairs sync old new result
        ⊎ IsStaleOnce pairs old new result ⊎ IsRefusedOnce items pairs old new result
        ⊎ IsActingOnce items pairs sync old new result
    pub rest_is : MatchResult result (λ _. rest ≡ []) (λ _. rest ≡ items)
    pub advance : let batch = acting_batch (contents_of old) items pairs in
        Advances (accepted_by result (written_batch batch)) (covered_by result sync)
        (pending_of (contents_of old) batch) (state_of old) (state_of new)
    pub failed : (result ≡ Err fault.Failed) ↔ (has_failed old ≡ true)
    pub unchanged : has_failed old ≡ true → StaysFailed old new
