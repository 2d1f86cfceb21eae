-- What the calls of `Engine` that write and sync promise, once for all forms of a call.
use Rattle.std.specs.Prelude.{◌≡◌, ◌↔◌, ℕ, Bool, true, false, List, [], length, Result, Ok, Err, IfOk, IfErr, IsErrAnd, MatchResult, OnOk, OnErr, Vec, is_ok}
use Rattle.std.specs.List.{AllByRecursion}
use Rattle.std.specs.declared.alloc.Global.{Global}
use Rattle.raft_base.specs.Fault.{fault_code}
use Rattle.raft_once.specs.Numbers.{has_numbers, meets_number}
use Rattle.raft_base.specs.declared.errors.Fault.{Fault}
use Rattle.raft_base.specs.declared.errors.Fault.TheVariants as fault
use Rattle.raft_records.specs.Contents.{after_batch}
use Rattle.raft_records.specs.Item.{Batch}
use Rattle.raft_env.specs.declared.env.FileSystem.{Ghosts}
use Rattle.raft_env.specs.Refusal.{FailsCountedAt}
use Rattle.raft_pipes.specs.PipeState.{last_file}
use Rattle.raft_pipes.specs.Queue.{NamesLog}
use Rattle.raft_crash_laws.specs.Crash.{pending_of, written_batch}
use Rattle.raft_log_engine.specs.Advance.{Advances, OnlyAppends, StaysWithin, state_of}
use Rattle.raft_log_engine.specs.Cause.{HasNoneInFlight, IsAppendRefusal, IsUnwritable, IsWriteRefusal, StandsUnless, plain_part, plain_parts}
use Rattle.raft_log_engine.specs.Durability.{ChangesNoFile, ChangesNothing, HasRefused, HasWritten, Progresses, StaysFailed, accepted_by, covered_by, durability_of}
use Rattle.raft_log_engine.specs.Engine.{IsDurableToEnd, contents_of, directory_of, durable_of, folders_of, has_failed, memory_of, queue_of, refusals_of, target_size_of, unsynced_of}
use Rattle.raft_log_engine.specs.Group.{FailsWithChoice, HasWrittenGroup, IsGroupRefusal, LeavesChoice, accepted_in}
use Rattle.raft_log_engine.specs.Reads.{compact_batch, compact_count}
use Rattle.raft_log_engine.specs.Write.{HasGoneOn, StandsWithRoom, TakesItems}
use Rattle.raft_log_engine.specs.declared.engine.Engine.{Engine}

module _ {F H R W : Type 0} {g : Ghosts F H R W} where
  -- a write of a batch with these items, of which `rest` is left afterwards
  pub record IsWrite (items rest : Batch) (sync : Bool) (old new : Engine F H R W g)
      (result : Result ℕ Fault) : Type 0 where
    pub ok : IfOk result (HasWritten items rest old new)
    pub err : IfErr result (λ e. has_failed new ≡ false → HasRefused items rest old new e)
    pub advance : Advances (accepted_by result (written_batch items)) (covered_by result sync)
        (pending_of (contents_of old) items) (state_of old) (state_of new)
    pub stands : IfErr result (λ e. has_failed old ≡ false → StandsUnless sync (length (written_batch items)) old
        new e)
    pub unsynced : IfErr result (HasNoneInFlight sync (length (written_batch items)) old new)
    pub durable : OnOk result (sync ≡ true → IsDurableToEnd new)
    pub invalid : IsUnwritable (contents_of old) items → ChangesNothing old new
    pub failed : (result ≡ Err fault.Failed) ↔ (has_failed old ≡ true)
    pub unchanged : has_failed old ≡ true → StaysFailed old new × (rest ≡ items)
    pub cause : IfErr result (λ e. has_failed old ≡ false
        → IsWriteRefusal (folders_of old) (queue_of new) (contents_of old) items (has_failed new)
        (refusals_of old) (refusals_of new) e)
    pub memory : has_failed old ≡ false → items ≡ []
        → (sync ≡ false → (result ≡ Ok 0) × ChangesNoFile old new)
        × IfErr result (FailsCountedAt (NamesLog (folders_of old)) (refusals_of old)
        (refusals_of new))
    -- if the batch has no items, a refused sync fails the engine
    pub halts : items ≡ [] → OnErr result (has_failed new ≡ true)

  -- a write of a caller's batch, which is refused if it changes a group's number
  pub record IsCallersWrite (items rest : Batch) (sync : Bool) (old new : Engine F H R W g)
      (result : Result ℕ Fault) : Type 0 where
    pub call : IsWrite items rest sync old new result
    pub taken : OnOk result (has_numbers items ≡ false)
    pub reserved : has_failed old ≡ false → meets_number (contents_of old) items ≡ true
        → IsErrAnd result (λ e. fault_code e ≡ 1) × ChangesNothing old new
    pub plain : let part = plain_part items in
        Advances (accepted_by result (written_batch part)) (covered_by result sync)
        (pending_of (contents_of old) part) (state_of old) (state_of new)

  -- a write of several batches, each with a flag; `sync` says that some flag asks for a sync
  pub record IsGroupWrite (batches rest : List Batch) (count flags : ℕ) (sync : Bool)
      (old new : Engine F H R W g) (result : Result (Vec (Result ℕ Fault) Global) Fault)
      : Type 0 where
    pub ok : IfOk result (λ answers. HasWrittenGroup sync batches rest old new answers.items)
    pub err : OnErr result (has_failed new ≡ false → (contents_of new ≡ contents_of old)
        × (rest ≡ batches) × ChangesNoFile old new)
    pub same : OnErr result (has_failed new ≡ false → ChangesNothing old new)
    pub progress : MatchResult result
        (λ answers. Progresses (accepted_in answers.items batches) sync [] (durability_of old)
        (durability_of new))
        (λ _. FailsWithChoice batches old new)
    pub any_moment : StaysWithin (LeavesChoice (folders_of old) (durable_of old) (unsynced_of old)
        (contents_of old) (plain_parts batches)) (state_of old) (state_of new)
    pub stands : IfErr result (λ e. has_failed old ≡ false → StandsUnless sync 0 old new e)
    pub durable : OnOk result (sync ≡ true → IsDurableToEnd new)
    pub invalid : sync ≡ false → AllByRecursion (IsUnwritable (contents_of old)) batches
        → ChangesNothing old new
    pub failed : has_failed old ≡ true → result ≡ Err fault.Failed
    pub unchanged : has_failed old ≡ true → StaysFailed old new × (rest ≡ batches)
    pub fits : IfOk result (λ _. count ≡ flags)
    pub cause : IfErr result (IsGroupRefusal (folders_of old) count flags (has_failed old)
        (has_failed new) (refusals_of old) (refusals_of new))
    pub only : OnlyAppends (state_of old) (state_of new)

  -- a compaction of a group to an index
  pub record IsCompaction (group index : ℕ) (old new : Engine F H R W g) (result : Result ℕ Fault)
      : Type 0 where
    pub value : IfOk result (λ count. count ≡ compact_count index ((contents_of old).entries group))
    pub contents : MatchResult result
        (λ _. (has_failed new ≡ false)
        × (contents_of new ≡ after_batch (contents_of old)
        (compact_batch group index ((contents_of old).entries group)))
        × TakesItems (compact_batch group index ((contents_of old).entries group))
        (last_file (queue_of new)) (memory_of old) (memory_of new)
        × (((contents_of old).entries group ≡ [] → ⊥)
        → StandsWithRoom (target_size_of old) (refusals_of old) (refusals_of new)
        (queue_of old) (queue_of new)))
        (λ e. has_failed new ≡ false → (contents_of new ≡ contents_of old)
        × (memory_of new ≡ memory_of old)
        × HasGoneOn (target_size_of old) (refusals_of old) (refusals_of new)
        (queue_of old) (queue_of new) e)
    pub advance : let batch = compact_batch group index ((contents_of old).entries group) in
        Advances (accepted_by result (written_batch batch)) false
        (pending_of (contents_of old) batch) (state_of old) (state_of new)
    pub stands : IfErr result (λ e. has_failed old ≡ false → StandsUnless false 0 old new e)
    pub unsynced : IfErr result (HasNoneInFlight false 0 old new)
    pub failed : (result ≡ Err fault.Failed) ↔ (has_failed old ≡ true)
    pub unchanged : has_failed old ≡ true → StaysFailed old new
    pub cause : IfErr result (λ e. has_failed old ≡ false
        → IsAppendRefusal (folders_of old) (queue_of new) (has_failed new) (refusals_of old)
        (refusals_of new) e)
    pub memory : has_failed old ≡ false → (contents_of old).entries group ≡ []
        → (result ≡ Ok 0) × ChangesNothing old new

  -- a sync of the Append queue
  pub record IsSync (old new : Engine F H R W g) (result : Result (Unit {0}) Fault) : Type 0 where
    pub contents : (contents_of new ≡ contents_of old) × (queue_of new ≡ queue_of old)
    pub memory : memory_of new ≡ memory_of old
    pub advance : Advances [] (is_ok result) [] (state_of old) (state_of new)
    pub durable : OnOk result (IsDurableToEnd new)
    pub stands : OnOk result (has_failed new ≡ false)
    pub err : OnErr result (has_failed new ≡ true)
    pub files_stay : OnErr result (directory_of new ≡ directory_of old)
    pub failed : (result ≡ Err fault.Failed) ↔ (has_failed old ≡ true)
    pub unchanged : has_failed old ≡ true → StaysFailed old new
    pub cause : IfErr result (λ e. has_failed old ≡ false
        → FailsCountedAt (NamesLog (folders_of old)) (refusals_of old) (refusals_of new) e)
