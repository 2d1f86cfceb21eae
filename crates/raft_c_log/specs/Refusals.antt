-- Why calls on an open log are refused.
use Rattle.std.specs.Prelude.{◌≡◌, ◌<◌, ◌⊎◌, ℕ, Bool, true, false, List, [], length, Some, None, ℤ, pos}
use Rattle.raft_base.specs.Fault.{fault_code}
use Rattle.raft_base.specs.declared.errors.Fault.{Fault}
use Rattle.raft_base.specs.declared.errors.Fault.TheVariants as fault
use Rattle.raft_env.specs.Refusal.{FailsAt}
use Rattle.raft_env.specs.declared.env.FileSystem.{Ghosts}
use Rattle.raft_pipes.specs.Queue.{NamesLog}
use Rattle.raft_once.specs.Numbers.{shown}
use Rattle.raft_c_batch.specs.Batch.{index_in, read_batch}
use Rattle.raft_c_batch.specs.Refusals.{IsBatchRefusal}
use Rattle.raft_c_batch.specs.declared.batch.BatchFault.TheVariants.{Refused}
use Rattle.raft_c_batch.specs.declared.entry.Entry.{Entry as StoredEntry}
use Rattle.raft_log_engine.specs.Engine.{contents_of, folders_of, has_failed, refusals_of}
use Rattle.raft_log_engine.specs.Image.{IsWithout}
use Rattle.raft_log_engine.specs.Reads.{IsEntryRefusalAt, IsFetchRefusal, IsReadRefusal, bounds_refusal, entries_to_fetch, entry_of}
use Rattle.raft_log_engine.specs.declared.engine.Engine.{Engine}
use Rattle.raft_c_log.specs.Limit.{max_of}
use Rattle.raft_c_log.specs.declared.calls.Fetch.{Fetch}
use Rattle.raft_c_log.specs.declared.calls.Query.{Query}
use Rattle.raft_c_log.specs.declared.calls.Query.TheVariants as query

-- a failed engine refuses each call as `Failed`, a usable one for this cause
abbrev pub IsRefusalFor : Bool → (Fault → Type 0) → Fault → Type 0
IsRefusalFor failed cause e =
    ((failed ≡ true) × (e ≡ fault.Failed)) ⊎ ((failed ≡ false) × cause e)

-- the bytes are no batch, or the batch is refused
abbrev pub IsBytesRefusal : List ℕ → Fault → Type 0
IsBytesRefusal bytes e = ((read_batch bytes ≡ None) × (fault_code e ≡ 1))
    ⊎ IsBatchRefusal [] bytes (Refused e)

-- Reads.

-- the bytes of an entry are read as this one
abbrev pub IsStoredAs : List ℕ → StoredEntry → Type 0
IsStoredAs bytes e = (e.bytes.items ≡ bytes) × (index_in bytes ≡ Some e.index)

-- the index of an entry
abbrev pub index_of : StoredEntry → ℕ
index_of e = e.index

module _ {F H R W : Type 0} {g : Ghosts F H R W} where
  -- a log file can't be read, or memory ran out, also for a copy of what was read
  abbrev pub IsFileFault : Engine F H R W g → Engine F H R W g → Fault → Type 0
  IsFileFault old new e =
      FailsAt (NamesLog (folders_of old)) (refusals_of old) (refusals_of new) e

  -- why a usable engine fails a fetch of a non-empty group: its bounds, or an entry between them
  abbrev pub IsFetchFaultOf : Fetch → Engine F H R W g → Engine F H R W g → Fault → Type 0
  IsFetchFaultOf fetch old new e = let entries = (contents_of old).entries fetch.group in
      IsFetchRefusal fetch.begin fetch.end entries e
      ⊎ ((fetch.begin < fetch.end) × (bounds_refusal fetch.begin fetch.end entries ≡ None)
      × (IsReadRefusal IsStoredAs index_of
      (entries_to_fetch length fetch.begin fetch.end (max_of fetch.max_size) entries) e
      ⊎ IsFileFault old new e))

  -- why a usable engine fails a query: finding nothing needs no memory, except for the groups
  abbrev pub IsQueryFault : Query → Engine F H R W g → Engine F H R W g → Fault → Type 0
  IsQueryFault (query.Get group key) old new e =
      ((shown (contents_of old)).value group key.now ≡ None → ⊥) × (e ≡ fault.Memory)
  IsQueryFault (query.Entry group index) old new e =
      let found = entry_of (contents_of old) group index in (found ≡ None → ⊥)
      × (IsEntryRefusalAt IsStoredAs index_of index found e ⊎ IsFileFault old new e)
  IsQueryFault (query.Fetch fetch) old new e =
      (IsWithout (contents_of old) fetch.group → ⊥) × IsFetchFaultOf fetch old new e
  IsQueryFault (query.Scan scan) old new e =
      (IsWithout (contents_of old) scan.group → ⊥) × (e ≡ fault.Memory)
  IsQueryFault query.Groups old new e = e ≡ fault.Memory
  IsQueryFault (query.Span group) old new e = ⊥
  IsQueryFault query.PurgeNeeds old new e = ⊥

  -- the query fails with a fault of this code
  pub record IsUnanswered (q : Query) (code : ℤ) (old new : Engine F H R W g) : Type 0 where
    pub fails : Fault
    pub code_is : code ≡ pos (fault_code fails)
    pub cause : IsRefusalFor (has_failed old) (IsQueryFault q old new) fails
