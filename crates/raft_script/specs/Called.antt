-- Which call of an engine an operation makes, by the clause of the call itself.
use Rattle.std.specs.Prelude.{◌≡◌, ◌⊎◌, ◌-◌, ◌^◌, List, length, IsErrAnd, IsSomeAnd}
use Rattle.std.specs.List.{list_any}
use Rattle.raft_env.specs.declared.env.FileSystem.{Ghosts}
use Rattle.raft_records.specs.Item.{Batch}
use Rattle.raft_log_engine.specs.Calls.{IsCallersWrite, IsCompaction, IsGroupWrite, IsSync}
use Rattle.raft_log_engine.specs.Once.{IsWriteOnce}
use Rattle.raft_log_engine.specs.PurgeCalls.{IsAppendRewrite, IsExpiry, IsRewriteRewrite, IsStalePurge}
use Rattle.raft_log_engine.specs.declared.engine.Engine.{Engine}
use Rattle.raft_script.specs.Batches.{batch_of_acts, batches_of_parts}
use Rattle.raft_script.specs.ReadCalls.{IsEntryGet, IsFirstIndex, IsGet, IsLastIndex, IsListOfGroups}
use Rattle.raft_script.specs.Run.{IsUnbuilt, IsUnbuiltGroup}
use Rattle.raft_script.specs.declared.operation.Op.{Op}
use Rattle.raft_script.specs.declared.operation.Op.TheVariants as operation
use Rattle.raft_script.specs.declared.operation.Op.TheVariants.{Write, WriteGroup, WriteOnce, Sync, Get, CompactTo, First, Last, RewriteAppend, RewriteRewrite, PurgeStale, Purge}
use Rattle.raft_script.specs.declared.operation.Outcome.{Outcome}
use Rattle.raft_script.specs.declared.operation.Outcome.TheVariants as reply
use Rattle.raft_script.specs.declared.operation.Outcome.TheVariants.{Size, Sizes, Done, Value, Count, Index, Dropped, ToCompact}

module _ {F H R W : Type 0} {g : Ghosts F H R W} where
  -- an operation is a call of this engine with this result; a write without a batch isn't one
  abbrev pub IsCalled : Op → Outcome → Engine F H R W g → Engine F H R W g → Type 0
  IsCalled (Write acts sync) (Size answer) e e' =
      ((e' ≡ e) × IsErrAnd answer (IsUnbuilt acts.items))
      ⊎ IsSomeAnd (batch_of_acts acts.items) (λ batch. (rest : Batch)
      × IsCallersWrite batch rest sync e e' answer)
  IsCalled (WriteOnce acts pairs sync) (Size answer) e e' =
      ((e' ≡ e) × IsErrAnd answer (IsUnbuilt acts.items))
      ⊎ IsSomeAnd (batch_of_acts acts.items) (λ batch. (rest : Batch)
      × IsWriteOnce batch rest pairs.items sync e e' answer)
  IsCalled (WriteGroup parts) (Sizes answer) e e' =
      ((e' ≡ e) × IsErrAnd answer (IsUnbuiltGroup parts.items))
      ⊎ IsSomeAnd (batches_of_parts parts.items) (λ batches. (rest : List Batch)
      × IsGroupWrite batches rest (length batches) (length batches)
      (list_any (λ part. part.1) parts.items) e e' answer)
  IsCalled Sync (Done answer) e e' = IsSync e e' answer
  IsCalled (Get group key) (Value answer) e e' = IsGet group key.items e e' answer
  IsCalled (CompactTo group index) (Count answer) e e' = IsCompaction group index e e' answer
  IsCalled (operation.Entry group index) (reply.Entry answer) e e' =
      IsEntryGet group index e e' answer
  IsCalled (First group) (Index index) e e' = IsFirstIndex group e e' index
  IsCalled (Last group) (Index index) e e' = IsLastIndex group e e' index
  IsCalled operation.Groups (reply.Groups answer) e e' = IsListOfGroups e e' answer
  IsCalled (RewriteAppend watermark step) (Dropped answer) e e' =
      IsAppendRewrite watermark step e e' answer
  IsCalled RewriteRewrite (Dropped answer) e e' = IsRewriteRewrite e e' answer
  IsCalled PurgeStale (Dropped answer) e e' = IsStalePurge e e' answer
  IsCalled Purge (ToCompact answer) e e' = IsExpiry (2 ^ 64 - 1) e e' answer
  IsCalled _ _ e e' = ⊥
