-- What calls on an open log do and return, by what its engine holds.
use Rattle.std.specs.Borrow.{Bor}
use Rattle.std.specs.Option.{option_copied}
use Rattle.std.specs.Prelude.{◌≡◌, ◌⊎◌, ℕ, Bool, true, false, List, [], length, Option, Some, None, Result, Ok, Err, IsErrAnd, IsSomeAnd, Vec, drop, min, option_map, unwrap_or, zip, if◌then◌else◌}
use Rattle.std.specs.declared.alloc.Global.{Global}
use Rattle.raft_base.specs.declared.errors.Fault.{Fault}
use Rattle.raft_base.specs.declared.errors.Fault.TheVariants.{Memory}
use Rattle.raft_env.specs.declared.env.FileSystem.{Ghosts}
use Rattle.raft_pipes.specs.PipeState.{last_seq}
use Rattle.raft_records.specs.Contents.{Contents, first_index_of, last_index_of}
use Rattle.raft_records.specs.Item.{Batch, Entry}
use Rattle.raft_once.specs.Numbers.{shown}
use Rattle.raft_c_batch.specs.Batch.{entries_bytes, read_batch}
use Rattle.raft_c_batch.specs.Parts.{numbers_bytes, pairs_bytes}
use Rattle.raft_log_engine.specs.Calls.{IsCallersWrite, IsCompaction, IsSync}
use Rattle.raft_log_engine.specs.Engine.{contents_of, is_known_in, queue_of}
use Rattle.raft_log_engine.specs.Image.{IsWithout}
use Rattle.raft_log_engine.specs.Need.{append_rewrite_watermark, needs_of}
use Rattle.raft_log_engine.specs.Once.{IsWriteOnce}
use Rattle.raft_log_engine.specs.PurgeCalls.{IsAppendRewrite, IsExpiry, IsRewriteRewrite, IsStalePurge}
use Rattle.raft_log_engine.specs.Reads.{IsFetchable, IsGroupList, entries_to_fetch, entry_of}
use Rattle.raft_log_engine.specs.Scan.{IsScan}
use Rattle.raft_log_engine.specs.declared.engine.Engine.{Engine}
use Rattle.raft_c_log.specs.Groups.{IsGroupsRenewal, IsGroupsRewrite}
use Rattle.raft_c_log.specs.Limit.{limited, max_of}
use Rattle.raft_c_log.specs.Refusals.{IsBytesRefusal}
use Rattle.raft_c_log.specs.declared.answer.Answer.{Answer}
use Rattle.raft_c_log.specs.declared.calls.Change.{Change}
use Rattle.raft_c_log.specs.declared.calls.Change.TheVariants.{Write, WriteOnce, Sync, CompactTo, RewriteAppendQueue, RewriteAppendGroups, RewriteRewriteQueue, RewriteRewriteGroups, PurgeAllStale, PurgeExpired}
use Rattle.raft_c_log.specs.declared.calls.Fetch.{Fetch}
use Rattle.raft_c_log.specs.declared.calls.Query.{Query}
use Rattle.raft_c_log.specs.declared.calls.Query.TheVariants as query
use Rattle.raft_c_log.specs.declared.calls.Scan.{Scan}

-- the bytes, if they were found
abbrev pub answered : Bool → List ℕ → Option (List ℕ)
answered true bytes = Some bytes
answered false bytes = None

-- a fetch of a group's entries between these bounds, of at most so many bytes
abbrev pub fetch_of : ℕ → ℕ → ℕ → ℕ → Fetch
fetch_of group begin end max = record { group = group; begin = begin; end = end; max_size = max }

-- the end of a scan, if it has one
abbrev pub scan_end : Bool → Bor (List ℕ) → Option (Bor (List ℕ))
scan_end true end = Some end
scan_end false end = None

-- a scan of a group's keys between these bounds, of at most `limit` pairs
abbrev pub scan_of : ℕ → Bor (List ℕ) → Option (Bor (List ℕ)) → Bool → ℕ → Scan
scan_of group start end backwards limit =
    record { group = group; start = start; end = end; reverse = backwards; limit = limit }

-- the result of a fetch: nothing if the group has no entries and keys, else entries between bounds
pub record IsFetchAnswer (fetch : Fetch) (m : Contents) (answer : List ℕ) : Type 0 where
  pub without : IsWithout m fetch.group → answer ≡ []
  pub fetched :
      (IsWithout m fetch.group → ⊥) → IsFetchable fetch.begin fetch.end (m.entries fetch.group)
      × (answer ≡ entries_bytes (entries_to_fetch length fetch.begin fetch.end
      (max_of fetch.max_size) (m.entries fetch.group)))

-- the result of a scan: the first pairs of the group between the bounds, as many as the limit
pub record IsScanAnswer (scan : Scan) (m : Contents) (answer : List ℕ) : Type 0 where
  pub pairs : List (List ℕ × List ℕ)
  pub scanned : IsScan m scan.group (Some scan.start.now) (option_copied scan.end) scan.reverse pairs
  pub bytes : answer ≡ pairs_bytes (limited (max_of scan.limit) pairs)

-- the first and the last index of a group, if it has entries
abbrev pub IsSpanAnswer : List Entry → ℕ × ℕ → Bool → Type 0
IsSpanAnswer entries numbers true =
    (first_index_of entries ≡ Some numbers.0) × (last_index_of entries ≡ Some numbers.1)
IsSpanAnswer entries numbers false = first_index_of entries ≡ None

-- Changes.

-- a call's result gave this outcome: Told holds of its value, or the fault is the same
abbrev pub ComesTo : {T : Type 0} → (T → Type 0) → Result T Fault → Result (Unit {0}) Fault → Type 0
ComesTo Told (Ok x) (Ok done) = Told x
ComesTo Told (Err e) (Err f) = f ≡ e
ComesTo Told _ _ = ⊥

-- a call of the engine with this clause gave this outcome
pub record IsCall {T : Type 0} (Clause : Result T Fault → Type 0) (Told : T → Type 0)
    (outcome : Result (Unit {0}) Fault) : Type 0 where
  pub result : Result T Fault
  pub clause : Clause result
  pub comes : ComesTo Told result outcome

-- IsCall, with the batch that was read, of which `rest` is left afterwards
abbrev pub IsBatchCall : (Batch → Batch → Result ℕ Fault → Type 0) → Result (Unit {0}) Fault → Batch
    → Type 0
IsBatchCall Clause outcome items =
    (rest : Batch) × IsCall (Clause items rest) (λ _. Unit {0}) outcome

module _ {F H R W : Type 0} {g : Ghosts F H R W} where
  -- a call was refused before it reached the engine
  abbrev pub IsKeptOff : (Fault → Type 0) → Result (Unit {0}) Fault → Engine F H R W g
      → Engine F H R W g → Type 0
  IsKeptOff Unfit outcome old new = IsErrAnd outcome Unfit × (new ≡ old)

  -- a change is a call of the engine, by that call's own clause; bytes of no batch don't reach it
  abbrev pub IsCalled : Change → Result (Unit {0}) Fault → Engine F H R W g → Engine F H R W g → Answer
      → Type 0
  IsCalled (Write bytes sync) outcome old new answer =
      IsKeptOff (IsBytesRefusal bytes.now) outcome old new
      ⊎ IsSomeAnd (read_batch bytes.now)
      (IsBatchCall (λ items rest. IsCallersWrite items rest sync old new) outcome)
  IsCalled (WriteOnce bytes groups numbers sync) outcome old new answer =
      IsKeptOff (IsBytesRefusal bytes.now) outcome old new
      ⊎ IsSomeAnd (read_batch bytes.now) (IsBatchCall
      (λ items rest. IsWriteOnce items rest (zip groups.now numbers.now) sync old new) outcome)
  IsCalled Sync outcome old new answer = IsSync old new outcome
  IsCalled (CompactTo group index) outcome old new answer =
      IsCall (IsCompaction group index old new) (λ count. answer.numbers.0 ≡ count) outcome
  IsCalled RewriteAppendQueue outcome old new answer =
      IsCall (IsAppendRewrite None None old new) (λ count. answer.numbers.0 ≡ count) outcome
  IsCalled (RewriteAppendGroups watermark from budget) outcome old new answer =
      IsCall (IsGroupsRewrite watermark from budget old new)
      (λ next. answer.numbers ≡ (unwrap_or next 0, min watermark (last_seq (queue_of old)))) outcome
  IsCalled RewriteRewriteQueue outcome old new answer =
      IsCall (IsRewriteRewrite old new) (λ count. answer.numbers.0 ≡ count) outcome
  IsCalled (RewriteRewriteGroups from budget) outcome old new answer =
      IsCall (IsGroupsRenewal from budget old new) (λ next. answer.numbers.0 ≡ unwrap_or next 0) outcome
  IsCalled PurgeAllStale outcome old new answer =
      IsCall (IsStalePurge old new) (λ count. answer.numbers.0 ≡ count) outcome
  IsCalled (PurgeExpired barrier) outcome old new answer =
      IsCall (IsExpiry barrier old new)
      (λ asked. answer.bytes.items ≡ numbers_bytes asked.items) outcome
      ⊎ ((outcome ≡ Err Memory)
      × ((asked : Vec ℕ Global) × IsExpiry barrier old new (Ok asked)))

  -- Queries.

  -- what is to be rewritten now: up to which file of the Append queue, and whether the Rewrite queue
  abbrev pub needs_told : Engine F H R W g → ℕ × ℕ
  needs_told e =
      (unwrap_or (append_rewrite_watermark e) 0, (if (needs_of e).rewrite then 1 else 0))

  -- the result of a query of the known groups
  abbrev pub IsGroupsAnswer : Engine F H R W g → List ℕ → Type 0
  IsGroupsAnswer e answer = (groups : List ℕ)
      × IsGroupList (contents_of e) (is_known_in e) groups × (answer ≡ numbers_bytes groups)

  -- the result of a query, and whether it was found
  abbrev pub HasAnswered : Query → Engine F H R W g → Answer → Bool → Type 0
  HasAnswered (query.Get group key) e answer found =
      answered found answer.bytes.items ≡ (shown (contents_of e)).value group key.now
  HasAnswered (query.Entry group index) e answer found = answered found answer.bytes.items
      ≡ option_map (drop 8) (entry_of (contents_of e) group index)
  HasAnswered (query.Fetch fetch) e answer found =
      (found ≡ true) × IsFetchAnswer fetch (contents_of e) answer.bytes.items
  HasAnswered (query.Scan scan) e answer found =
      (found ≡ true) × IsScanAnswer scan (shown (contents_of e)) answer.bytes.items
  HasAnswered query.Groups e answer found =
      (found ≡ true) × IsGroupsAnswer e answer.bytes.items
  HasAnswered (query.Span group) e answer found =
      IsSpanAnswer ((contents_of e).entries group) answer.numbers found
  HasAnswered query.PurgeNeeds e answer found = (found ≡ true) × (answer.numbers ≡ needs_told e)
