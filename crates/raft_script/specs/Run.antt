-- The results of operations.
use Rattle.std.specs.Prelude.{◌≡◌, ◌⊎◌, ℕ, ◌^◌, ◌≤◌, length, take, Bool, true, false, List, [], ◌∷◌, Option, Some, None, option_map, Result, Ok, Err, MatchResult, IsSome, IsSomeAnd}
use Rattle.std.specs.List.{Any}
use Rattle.raft_records.specs.Contents.{Contents, after_batch, first_index_of, last_index_of}
use Rattle.raft_records.specs.Item.{Batch}
use Rattle.raft_records.specs.Layout.{entry_bytes}
use Rattle.raft_records.specs.Validity.{IsValidBatch, batch_refusal}
use Rattle.raft_base.specs.Fault.{fault_code}
use Rattle.raft_base.specs.declared.errors.Fault.{Fault}
use Rattle.raft_base.specs.declared.errors.Fault.TheVariants as fault
use Rattle.raft_log_engine.specs.Cause.{IsOutOfRange, IsWritable}
use Rattle.raft_log_engine.specs.Engine.{record_len}
use Rattle.raft_once.specs.Numbers.{Pair, are_new, are_old, are_unfit, has_numbers, meets_number, numbered, shown}
use Rattle.raft_log_engine.specs.Reads.{IsEntryAnswer, IsEntryRefusalAt, IsGroupList, compact_count, entry_of}
use Rattle.raft_script.specs.Batches.{Part, batch_of_acts, batches_of_parts}
use Rattle.raft_script.specs.Entry.{IsTextOf, index_of}
use Rattle.raft_purge_steps.specs.Unfit.{IsUnfit}
use Rattle.raft_script.specs.declared.operation.Act.{Act}
use Rattle.raft_script.specs.declared.operation.Op.{Op}
use Rattle.raft_script.specs.declared.operation.Op.TheVariants as operation
use Rattle.raft_script.specs.declared.operation.Op.TheVariants.{Write, WriteGroup, WriteOnce, Sync, Get, CompactTo, First, Last, RewriteAppend, RewriteRewrite, PurgeStale, Purge}
use Rattle.raft_script.specs.declared.operation.Outcome.{Outcome}
use Rattle.raft_script.specs.declared.operation.Outcome.TheVariants as reply
use Rattle.raft_script.specs.declared.operation.Outcome.TheVariants.{Size, Sizes, Done, Value, Count, Index, Dropped, ToCompact}

-- the operation makes no storage call: it reads from memory, or the acts of a write make no batch
abbrev pub IsUnasked : Op → Type 0
IsUnasked (Write acts sync) = batch_of_acts acts.items ≡ None
IsUnasked (WriteOnce acts pairs sync) = batch_of_acts acts.items ≡ None
IsUnasked (WriteGroup parts) = batches_of_parts parts.items ≡ None
IsUnasked Sync = ⊥
IsUnasked (Get group key) = Unit {0}
IsUnasked (CompactTo group index) = ⊥
IsUnasked (operation.Entry group index) = ⊥
IsUnasked (First group) = Unit {0}
IsUnasked (Last group) = Unit {0}
IsUnasked operation.Groups = Unit {0}
IsUnasked (RewriteAppend watermark step) = ⊥
IsUnasked RewriteRewrite = ⊥
IsUnasked PurgeStale = ⊥
IsUnasked Purge = ⊥

-- some first acts have more bytes of entries than a batch takes
abbrev pub IsOversized : List Act → Type 0
IsOversized acts = (count : ℕ) × (batch : Batch) × (batch_of_acts (take count acts) ≡ Some batch)
    × (2 ^ 32 ≤ length (entry_bytes batch))

-- no batch of these acts could be built: one is refused, memory ran out, or they are too long
abbrev pub IsUnbuilt : List Act → Fault → Type 0
IsUnbuilt acts e = (e ≡ fault.Memory) ⊎ ((fault_code e ≡ 1) × (batch_of_acts acts ≡ None))
    ⊎ ((e ≡ fault.Range) × IsOversized acts)

-- no batches of a group could be built: for memory, or for one of them
abbrev pub IsUnbuiltGroup : List Part → Fault → Type 0
IsUnbuiltGroup parts e = (e ≡ fault.Memory) ⊎ Any (λ part. IsUnbuilt part.0.items e) parts

-- a successful write: the contents accept its batch, and the result is the length of its record
abbrev pub IsWritten : Contents → List Act → ℕ → Type 0
IsWritten m acts len = (batch : Batch) × (batch_of_acts acts ≡ Some batch)
    × (has_numbers batch ≡ false) × IsValidBatch m batch × (len ≡ record_len batch)

-- the batch is out of range, or it is writable and no file number is left
abbrev pub IsOutOfNumbers : Type 0 → Contents → Batch → Type 0
IsOutOfNumbers none_left m batch = IsOutOfRange m batch ⊎ (IsWritable m batch × none_left)

-- why a write fails: for its acts, its batch, memory, storage, a file number, or a failed engine
abbrev pub IsWriteRefusal : Type 0 → Contents → List Act → Fault → Type 0
IsWriteRefusal none_left m acts (fault.InvalidArgument _) = (batch_of_acts acts ≡ None)
    ⊎ IsSomeAnd (batch_of_acts acts) (λ batch. meets_number m batch ≡ true)
IsWriteRefusal none_left m acts (fault.Io kind path) = IsSomeAnd (batch_of_acts acts) (IsWritable m)
IsWriteRefusal none_left m acts fault.TryAgain = IsSomeAnd (batch_of_acts acts) (IsWritable m)
IsWriteRefusal none_left m acts fault.Memory = Unit {0}
IsWriteRefusal none_left m acts fault.Gap =
    IsSomeAnd (batch_of_acts acts) (λ batch. batch_refusal m batch ≡ Some fault.Gap)
IsWriteRefusal none_left m acts fault.Range =
    IsOversized acts ⊎ IsSomeAnd (batch_of_acts acts) (IsOutOfNumbers none_left m)
IsWriteRefusal none_left m acts fault.Failed = IsSome (batch_of_acts acts)
IsWriteRefusal none_left m acts _ = ⊥

-- a successful write with numbers: all old and nothing is written, or all new and a batch is
abbrev pub IsWrittenOnce : Contents → List Act → List Pair → ℕ → Type 0
IsWrittenOnce m acts pairs len = (batch : Batch) × (batch_of_acts acts ≡ Some batch)
    × (are_unfit pairs ≡ false) × (((are_old m pairs ≡ true) × (len ≡ 0))
    ⊎ ((are_new m pairs ≡ true) × (has_numbers batch ≡ false) × IsValidBatch m batch
    × (len ≡ record_len (numbered batch pairs))))

-- all numbers are new, and P holds of the batch of these acts
abbrev pub IsNew : Contents → List Act → List Pair → (Batch → Type 0) → Type 0
IsNew m acts pairs P = (are_unfit pairs ≡ false) × (are_new m pairs ≡ true)
    × IsSomeAnd (batch_of_acts acts) P

-- all numbers are old, and the acts have a batch
abbrev pub IsRepeat : Contents → List Act → List Pair → Type 0
IsRepeat m acts pairs = (are_unfit pairs ≡ false) × (are_old m pairs ≡ true)
    × IsSome (batch_of_acts acts)

-- some numbers are new and some are old, and the acts have a batch
abbrev pub IsStale : Contents → List Act → List Pair → Type 0
IsStale m acts pairs = (are_unfit pairs ≡ false) × (are_old m pairs ≡ false)
    × (are_new m pairs ≡ false) × IsSome (batch_of_acts acts)

-- why a write with numbers fails: as a write does if all are new; for unfit numbers; if only some
-- are new; and if none is, in a requested sync
abbrev pub IsOnceRefusal : Type 0 → Contents → List Act → List Pair → Bool → Fault → Type 0
IsOnceRefusal none_left m acts pairs sync (fault.InvalidArgument _) =
    (batch_of_acts acts ≡ None) ⊎ (are_unfit pairs ≡ true)
    ⊎ IsNew m acts pairs (λ batch. meets_number m batch ≡ true)
IsOnceRefusal none_left m acts pairs sync fault.StaleNumber = IsStale m acts pairs
IsOnceRefusal none_left m acts pairs sync (fault.Io kind path) =
    ((sync ≡ true) × IsRepeat m acts pairs)
    ⊎ IsNew m acts pairs (λ batch. IsWritable m (numbered batch pairs))
IsOnceRefusal none_left m acts pairs sync fault.TryAgain =
    IsNew m acts pairs (λ batch. IsWritable m (numbered batch pairs))
IsOnceRefusal none_left m acts pairs sync fault.Memory = Unit {0}
IsOnceRefusal none_left m acts pairs sync fault.Gap =
    IsNew m acts pairs (λ batch. batch_refusal m batch ≡ Some fault.Gap)
IsOnceRefusal none_left m acts pairs sync fault.Range = IsOversized acts
    ⊎ IsNew m acts pairs (λ batch. IsOutOfNumbers none_left m (numbered batch pairs))
IsOnceRefusal none_left m acts pairs sync fault.Failed = IsSome (batch_of_acts acts)
IsOnceRefusal none_left m acts pairs sync _ = ⊥

-- why a batch of a group is refused: for an item, its length, a file number, storage or memory
abbrev pub IsBatchRefusal : Type 0 → Contents → Batch → Fault → Type 0
IsBatchRefusal none_left m batch (fault.InvalidArgument _) = meets_number m batch ≡ true
IsBatchRefusal none_left m batch fault.Gap = batch_refusal m batch ≡ Some fault.Gap
IsBatchRefusal none_left m batch fault.Range = IsOutOfNumbers none_left m batch
IsBatchRefusal none_left m batch (fault.Io kind path) = IsWritable m batch
IsBatchRefusal none_left m batch fault.TryAgain = IsWritable m batch
IsBatchRefusal none_left m batch fault.Memory = IsWritable m batch
IsBatchRefusal none_left m batch _ = ⊥

-- each batch is accepted or refused at the contents after those that were accepted before it
abbrev pub AreBatchAnswers : Type 0 → Contents → List Batch → List (Result ℕ Fault) → Type 0
AreBatchAnswers none_left m [] [] = Unit {0}
AreBatchAnswers none_left m (batch ∷ batches) (Ok len ∷ answers) =
    (has_numbers batch ≡ false) × IsValidBatch m batch
    × (len ≡ record_len batch) × AreBatchAnswers none_left (after_batch m batch) batches answers
AreBatchAnswers none_left m (batch ∷ batches) (Err e ∷ answers) =
    IsBatchRefusal none_left m batch e × AreBatchAnswers none_left m batches answers
AreBatchAnswers none_left m _ _ = ⊥

-- a successful group: each part has a batch, and AreBatchAnswers holds of them
abbrev pub IsWrittenGroup : Type 0 → Contents → List Part → List (Result ℕ Fault) → Type 0
IsWrittenGroup none_left m parts answers =
    IsSomeAnd (batches_of_parts parts) (λ batches. AreBatchAnswers none_left m batches answers)

-- why a group fails: for an act, too many bytes of entries, memory, storage, or a failed engine
abbrev pub IsGroupRefusal : List Part → Fault → Type 0
IsGroupRefusal parts (fault.InvalidArgument _) = batches_of_parts parts ≡ None
IsGroupRefusal parts (fault.Io kind path) = IsSome (batches_of_parts parts)
IsGroupRefusal parts fault.Memory = Unit {0}
IsGroupRefusal parts fault.Range = Any (λ part. IsOversized part.0.items) parts
IsGroupRefusal parts fault.Failed = IsSome (batches_of_parts parts)
IsGroupRefusal parts _ = ⊥

-- why a call without a batch fails: by storage, for memory, or since the engine had failed
abbrev pub IsEngineRefusal : Fault → Type 0
IsEngineRefusal (fault.Io kind path) = Unit {0}
IsEngineRefusal fault.Memory = Unit {0}
IsEngineRefusal fault.Failed = Unit {0}
IsEngineRefusal _ = ⊥

-- IsEngineRefusal, no number left for a next log file, or no space
abbrev pub IsCompactRefusal : Type 0 → Fault → Type 0
IsCompactRefusal none_left fault.Range = none_left
IsCompactRefusal none_left fault.TryAgain = Unit {0}
IsCompactRefusal none_left e = IsEngineRefusal e

-- why a purge fails: IsCompactRefusal, no id left, or one of the engine's own keys has a value
abbrev pub IsRefusedPurge : Contents → Fault → Type 0
IsRefusedPurge m (fault.InvalidArgument text) = IsUnfit m (fault.InvalidArgument text)
IsRefusedPurge m e = IsCompactRefusal (Unit {0}) e

-- the result of a purge; an `Ok` is explained by the engine's queues, not here
abbrev pub IsPurgeAnswer : {T : Type 0} → Contents → Result T Fault → Type 0
IsPurgeAnswer m answer = MatchResult answer (λ _. Unit {0}) (IsRefusedPurge m)

-- why a get fails: for memory, or since the engine had failed
abbrev pub IsGetRefusal : Fault → Type 0
IsGetRefusal fault.Memory = Unit {0}
IsGetRefusal fault.Failed = Unit {0}
IsGetRefusal _ = ⊥

-- an entry can't be read as one of text, or IsEngineRefusal
abbrev pub IsTextRefusal : ℕ → Option (List ℕ) → Fault → Type 0
IsTextRefusal index bytes e = IsEntryRefusalAt IsTextOf index_of index bytes e ⊎ IsEngineRefusal e

-- the result of an operation at these contents and known groups; `failed`: the engine had failed,
-- and then nothing is said of indexes; `none_left`: no number is left for a next log file
abbrev pub IsAnswer : Type 0 → Bool → Contents → (ℕ → Bool) → Op → Outcome → Type 0
IsAnswer none_left failed m known (Write acts sync) (Size answer) =
    MatchResult answer (IsWritten m acts.items) (IsWriteRefusal none_left m acts.items)
IsAnswer none_left failed m known (WriteOnce acts pairs sync) (Size answer) =
    MatchResult answer (IsWrittenOnce m acts.items pairs.items)
    (IsOnceRefusal none_left m acts.items pairs.items sync)
IsAnswer none_left failed m known (WriteGroup parts) (Sizes answer) = MatchResult answer (λ answers.
    IsWrittenGroup none_left m parts.items answers.items) (IsGroupRefusal parts.items)
IsAnswer none_left failed m known Sync (Done answer) =
    MatchResult answer (λ _. Unit {0}) IsEngineRefusal
IsAnswer none_left failed m known (Get group key) (Value answer) =
    MatchResult answer (λ value. option_map (λ v. v.items) value
    ≡ (shown m).value group key.items) IsGetRefusal
IsAnswer none_left failed m known (CompactTo group index) (Count answer) =
    MatchResult answer (λ count. count ≡ compact_count index (m.entries group))
    (IsCompactRefusal none_left)
IsAnswer none_left failed m known (operation.Entry group index) (reply.Entry answer) =
    MatchResult answer (IsEntryAnswer IsTextOf index_of index (entry_of m group index))
    (IsTextRefusal index (entry_of m group index))
IsAnswer none_left failed m known (First group) (Index index) =
    failed ≡ false → index ≡ first_index_of (m.entries group)
IsAnswer none_left failed m known (Last group) (Index index) =
    failed ≡ false → index ≡ last_index_of (m.entries group)
IsAnswer none_left failed m known operation.Groups (reply.Groups answer) =
    MatchResult answer (λ groups. IsGroupList m known groups.items) IsGetRefusal
IsAnswer none_left failed m known (RewriteAppend watermark step) (Dropped answer) =
    IsPurgeAnswer m answer
IsAnswer none_left failed m known RewriteRewrite (Dropped answer) = IsPurgeAnswer m answer
IsAnswer none_left failed m known PurgeStale (Dropped answer) = IsPurgeAnswer m answer
IsAnswer none_left failed m known Purge (ToCompact answer) = IsPurgeAnswer m answer
IsAnswer none_left failed m known _ _ = ⊥
