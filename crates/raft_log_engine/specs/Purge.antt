-- What purges leave of the queues, and why they fail.
use Rattle.std.specs.Prelude.{◌≡◌, ◌⊎◌, ◌^◌, ℕ, max, suc, ◌+◌, Bool, true, false, MatchResult, OnErr, OnOk, Option, Result, Some, None}
use Rattle.raft_base.specs.declared.errors.Fault.{Fault}
use Rattle.raft_base.specs.declared.errors.Fault.TheVariants as fault
use Rattle.raft_base.specs.declared.pipe_log.LogQueue.{LogQueue}
use Rattle.raft_base.specs.declared.pipe_log.LogQueue.TheVariants.{Append, Rewrite}
use Rattle.raft_config.specs.Folders.{Folders}
use Rattle.raft_env.specs.Directory.{Directory}
use Rattle.raft_env.specs.declared.env.FileSystem.{Ghosts}
use Rattle.raft_env.specs.Refusal.{FailsAt, Refusals, RoseBy}
use Rattle.raft_index_laws.specs.DroppingOld.{AreRewrittenFrom}
use Rattle.raft_pipes.specs.PipeState.{HasLastNumber, PipeState, last_seq}
use Rattle.raft_pipes.specs.Queue.{NamesLog}
use Rattle.raft_queues.specs.Dual.{DualState, pipe_of}
use Rattle.raft_records.specs.Contents.{Contents}
use Rattle.raft_tables.specs.Counters.{deleted_count}
use Rattle.raft_tables.specs.FirstFiles.{first_of_tables}
use Rattle.raft_tables.specs.GroupIds.{ids_bound}
use Rattle.raft_tables.specs.declared.memtables.MemTables.{MemTables}
use Rattle.raft_tables.specs.declared.rewritten.GroupsMet.{GroupsMet}
use Rattle.raft_tables.specs.declared.stats.GlobalStats.{GlobalStats}
use Rattle.raft_crash_laws.specs.Log.{KnownGroups}
use Rattle.raft_rewrite.specs.Apart.{KeepsOthers}
use Rattle.raft_stale.specs.Dropping.{HasDroppedOld, HasDroppedSome}
use Rattle.raft_purge.specs.Expired.{HasDroppedExpired, IsIdle, MovesDue}
use Rattle.raft_purge_steps.specs.Faults.{HaveOwedNoRecord, IsByChange, IsPurgeRefusal}
use Rattle.raft_rewrite.specs.OpenGroup.{EndsOpen, HasNoId, IsAtomicRefusal}
use Rattle.raft_rewrite.specs.Emptied.{MovesOnly}
use Rattle.raft_purge.specs.Groups.{HasEmptiedGroups}
use Rattle.raft_purge.specs.RenewalPart.{AreRenewed, MayGoOnWith, files_behind as files_behind_part, files_new, first_kept, first_new}
use Rattle.raft_purge.specs.declared.renewal_groups.NewFiles.{NewFiles}
use Rattle.raft_purge.specs.declared.renewal_groups.RenewalPart.{RenewalPart}
use Rattle.raft_purge.specs.Scope.{HasEmptied, HasRewritten, watermark_in}
use Rattle.raft_stale.specs.Scope.{HasLostFront}
use Rattle.raft_tables.specs.OwedMarks.{owed_of}
use Rattle.raft_tables.specs.Tables.{Tables, tables_of}
use Rattle.raft_purge_steps.specs.Unfit.{IsUnfit}
use Rattle.raft_purge_steps.specs.declared.fault.StepFault.{StepFault}
use Rattle.raft_log_engine.specs.Engine.{directory_of}
use Rattle.raft_log_engine.specs.declared.engine.Engine.{Engine}
use Rattle.raft_log_engine.specs.declared.engine.purge_kind.Purge.{Purge}
use Rattle.raft_log_engine.specs.declared.engine.purge_kind.Purge.TheVariants.{RewriteAppend, RewriteGroups, RewriteRewrite, RenewGroups, DropStale, DropExpired}

-- the queue whose dropped files a purge counts
abbrev pub queue_freed : Purge → LogQueue
queue_freed RewriteRewrite = Rewrite
queue_freed (RenewGroups x) = Rewrite
queue_freed _ = Append

-- the purge dropped this many files of that queue
abbrev pub HasFreed : Purge → DualState → DualState → ℕ → Type 0
HasFreed purge d d' count = let queue = queue_freed purge in
    (pipe_of queue d).first + count ≡ (pipe_of queue d').first

-- how many of the batches that a purge writes need not be full: the last one of each rewriting
abbrev pub rests_of : Purge → ℕ
rests_of (RewriteAppend scope) = 1
rests_of (RewriteGroups x) = 1
rests_of RewriteRewrite = 1
rests_of (RenewGroups x) = 1
rests_of DropStale = 0
rests_of (DropExpired x) = 2

-- the queue has none of its old files if atomic groups are adjacent, else all
pub record HasRenewed (together : Bool) (p p' : PipeState) : Type 0 where
  pub gone : together ≡ true → p'.first ≡ suc (last_seq p)
  pub kept : together ≡ false → p'.first ≡ p.first

-- both queues have a next file; unreferenced Append files are gone, and old Rewrite files may be
pub record HasDroppedStale (together : Bool) (m : MemTables) (append rewrite append' rewrite' : PipeState)
    : Type 0 where
  pub last : last_seq append' ≡ suc (last_seq append)
  pub first : append'.first
      ≡ max append.first (first_of_tables Append (suc (last_seq append)) m)
  pub old : HasDroppedOld together m rewrite rewrite'

-- these groups have nothing in old files; after the last groups, and only then, old files may go
pub record HasRenewedGroups (x : RenewalPart) (together : Bool) (m m' : MemTables) (p p' : PipeState)
    : Type 0 where
  pub emptied : AreRenewed (first_new x.files p) x (tables_of m) (tables_of m')
  pub kept : x.is_last ≡ false → p'.first ≡ p.first
  pub dropped : x.is_last ≡ true → p'.first ≡ first_kept (first_new x.files p) together m' p
  pub gone :
      x.is_last ≡ true → together ≡ true → AreRewrittenFrom (first_new x.files p) (tables_of m')
      → p'.first ≡ first_new x.files p

-- what a purge leaves of both queues, by the tables before and after it
abbrev pub HasPurged : Purge → Bool → MemTables → MemTables → PipeState → PipeState → PipeState
    → PipeState → Type 0
HasPurged (RewriteAppend scope) together m m' append rewrite append' rewrite' =
    HasRewritten scope append append' × HasEmptied scope m m' append rewrite append' rewrite'
HasPurged (RewriteGroups x) together m m' append rewrite append' rewrite' =
    HasEmptiedGroups x (tables_of m) (tables_of m') append rewrite append' rewrite'
HasPurged RewriteRewrite together m m' append rewrite append' rewrite' =
    HasRenewed together rewrite rewrite' × (append' ≡ append)
HasPurged (RenewGroups x) together m m' append rewrite append' rewrite' =
    HasRenewedGroups x together m m' rewrite rewrite' × (append' ≡ append)
HasPurged DropStale together m m' append rewrite append' rewrite' =
    HasDroppedStale together m append rewrite append' rewrite'
HasPurged (DropExpired x) together m m' append rewrite append' rewrite' =
    HasDroppedExpired x together m' append rewrite append' rewrite'

-- the most that a refused purge has dropped of its queue
abbrev pub HasLostSome : Purge → MemTables → PipeState → PipeState → PipeState → PipeState → Type 0
HasLostSome (RewriteAppend scope) m append rewrite append' rewrite' = HasLostFront None m append append'
HasLostSome (RewriteGroups x) m append rewrite append' rewrite' = HasLostFront None m append append'
HasLostSome RewriteRewrite m append rewrite append' rewrite' =
    HasDroppedSome (suc (last_seq rewrite)) m rewrite rewrite'
HasLostSome (RenewGroups x) m append rewrite append' rewrite' =
    HasDroppedSome (first_new x.files rewrite) m rewrite rewrite'
HasLostSome DropStale m append rewrite append' rewrite' = HasLostFront None m append append'
HasLostSome (DropExpired x) m append rewrite append' rewrite' =
    HasLostFront (Some x.barrier) m append append'

-- if only the Append queue is rewritten, other groups than the named ones keep their places
abbrev pub KeepsOtherGroups : Purge → Tables → Tables → Type 0
KeepsOtherGroups (RewriteGroups x) t t' = KeepsOthers x.groups.items t t'
KeepsOtherGroups (DropExpired x) t t' = x.renews ≡ false → KeepsOthers x.groups.items t t'
KeepsOtherGroups _ t t' = Unit {0}

-- the purge has nothing to rewrite
abbrev pub IsIdlePurge : Purge → Type 0
IsIdlePurge (DropExpired x) = IsIdle x
IsIdlePurge _ = ⊥

-- nothing moves after the watermark of the Append queue; a renewal moves nothing in that queue
abbrev pub LeavesBehind : Purge → PipeState → Tables → Tables → Type 0
LeavesBehind (RewriteAppend scope) append t t' =
    MovesOnly (Some (watermark_in scope (last_seq append))) t t'
LeavesBehind (RewriteGroups x) append t t' = MovesOnly (Some x.watermark) t t'
LeavesBehind RewriteRewrite append t t' = MovesOnly None t t'
LeavesBehind (RenewGroups x) append t t' = MovesOnly None t t'
LeavesBehind (DropExpired x) append t t' = MovesDue x.renews x.watermark t t'
LeavesBehind _ append t t' = Unit {0}

-- the purge ends a renewal and rewrites nothing else, so the counters start again at 0
abbrev pub RewritesOnlyRewrite : Purge → Type 0
RewritesOnlyRewrite RewriteRewrite = Unit {0}
RewritesOnlyRewrite (RenewGroups x) = x.is_last ≡ true
RewritesOnlyRewrite (DropExpired x) = (x.renews ≡ true) × (x.watermark ≡ None)
RewritesOnlyRewrite _ = ⊥

-- the Rewrite queue ends with an open atomic group, and the purge may be a renewal
abbrev pub MayLeaveOpen : Purge → DualState → Directory → Type 0
MayLeaveOpen RewriteRewrite d n = EndsOpen d n
MayLeaveOpen (RenewGroups x) d n = EndsOpen d n
MayLeaveOpen (DropExpired x) d n = EndsOpen d n
MayLeaveOpen _ d n = ⊥

-- no id is left for an atomic group, and the purge may be a renewal
abbrev pub MayLackId : Purge → GroupsMet → Type 0
MayLackId RewriteRewrite groups = ids_bound groups.ids ≡ 2 ^ 64
MayLackId (RenewGroups x) groups = ids_bound groups.ids ≡ 2 ^ 64
MayLackId (DropExpired x) groups = ids_bound groups.ids ≡ 2 ^ 64
MayLackId _ groups = ⊥

-- the purge writes no atomic group
abbrev pub WritesNoAtomic : Purge → Type 0
WritesNoAtomic (RewriteAppend scope) = Unit {0}
WritesNoAtomic (RewriteGroups x) = Unit {0}
WritesNoAtomic DropStale = Unit {0}
WritesNoAtomic _ = ⊥

-- short calls of a renewal continue with these new files, if there are some
abbrev pub GoesOnFrom : Purge → Option NewFiles → Type 0
GoesOnFrom (RenewGroups x) files = x.files ≡ files
GoesOnFrom _ files = Unit {0}

-- the new files that short calls of a renewal continue with are as they have to be
abbrev pub GoesOnIf : Purge → DualState → Tables → KnownGroups → Directory → Type 0
GoesOnIf (RenewGroups x) d t met n = MayGoOnWith x.files d t met n
GoesOnIf _ d t met n = Unit {0}

-- the new files after a purge, if short calls begin with these: none after any other purge
abbrev pub files_behind : Purge → NewFiles → Option NewFiles
files_behind (RenewGroups x) next = files_behind_part x next
files_behind _ next = None

-- `Ok` leaves these new files; `Err` leaves those from before the call, or none
abbrev pub LeavesNewFiles : {T : Type 0} → Result T Fault → Option NewFiles → Option NewFiles
    → Option NewFiles → Type 0
LeavesNewFiles result behind old new =
    MatchResult result (λ x. new ≡ behind) (λ e. (new ≡ None) ⊎ (new ≡ old))

-- why the steps of a purge fail: IsAtomicRefusal or HasNoId if it may renew, else IsPurgeRefusal
abbrev pub IsRunRefusal : Purge → GroupsMet → DualState → DualState → Directory → Refusals → Refusals
    → (Fault → Type 0) → StepFault → Type 0
IsRunRefusal RewriteRewrite groups d d' n' old new U f =
    IsAtomicRefusal d d' n' old new (λ e. HasNoId groups e ⊎ U e) f
IsRunRefusal (RenewGroups x) groups d d' n' old new U f =
    IsAtomicRefusal d d' n' old new (λ e. HasNoId groups e ⊎ U e) f
IsRunRefusal (DropExpired x) groups d d' n' old new U f =
    IsAtomicRefusal d d' n' old new (λ e. HasNoId groups e ⊎ U e) f
IsRunRefusal _ groups d d' n' old new U f = IsPurgeRefusal d d' n' old new U f

-- what fails an engine in a purge: IsByChange; or any fault while an atomic group is open
abbrev pub IsFailureCause : Type 0 → DualState → Directory → Refusals → Refusals → Fault → Type 0
IsFailureCause ends_open d n old new e = ends_open ⊎ IsByChange d n old new e

-- why a purge fails: a call on the log, memory, no number left, data or marks without a record, an
-- internal key with a value, or lack of space (`TryAgain`); the last one always fails the engine
abbrev pub IsPurgeFault : Contents → PipeState → PipeState → Type 0 → Type 0 → Folders → Bool
    → Refusals → Refusals → Fault → Type 0
IsPurgeFault x append rewrite ends_open unmarked folders fails old new fault.Range =
    ((fails ≡ false) ⊎ ends_open)
    × (IsUnfit x fault.Range ⊎ (unmarked ⊎ (HasLastNumber append ⊎ HasLastNumber rewrite)))
IsPurgeFault x append rewrite ends_open unmarked folders fails old new (fault.InvalidArgument text) =
    ((fails ≡ false) ⊎ ends_open) × IsUnfit x (fault.InvalidArgument text)
IsPurgeFault x append rewrite ends_open unmarked folders fails old new fault.TryAgain =
    RoseBy 1 old new × (fails ≡ true)
IsPurgeFault x append rewrite ends_open unmarked folders fails old new e =
    FailsAt (NamesLog folders) old new e

-- what a purge leaves of both queues' files, and what it moves and counts
pub record Frees {E : Type 0} (purge : Purge) (result : Result ℕ E) (m m' : MemTables)
    (stats stats' : GlobalStats) (groups groups' : GroupsMet) (d d' : DualState) : Type 0 where
  pub files : OnOk result
      (HasPurged purge groups.together m m' d.append d.rewrite d'.append d'.rewrite)
  -- a refused purge has dropped at most what HasLostSome says
  pub first : OnErr result (HasLostSome purge m' d.append d.rewrite d'.append d'.rewrite)
  pub append : queue_freed purge ≡ Rewrite → d'.append ≡ d.append
  pub tables : OnOk result (LeavesBehind purge d.append (tables_of m) (tables_of m'))
  pub apart : OnOk result (KeepsOtherGroups purge (tables_of m) (tables_of m'))
  pub idle : OnOk result
      (IsIdlePurge purge → (d' ≡ d) × (m' ≡ m) × (stats' ≡ stats) × (groups' ≡ groups))
  -- a renewal starts its counters again at 0, and a drop of stale files moves and counts nothing
  pub counted : RewritesOnlyRewrite purge → OnOk result (deleted_count stats' ≡ 0)
  pub stale : purge ≡ DropStale → (m' ≡ m) × (stats' ≡ stats) × (groups' ≡ groups)
  -- the next id stays if none is used
  pub ids : WritesNoAtomic purge → groups' ≡ groups

module _ {F H R W : Type 0} {g : Ghosts F H R W} where
  -- the tables of an engine
  abbrev pub tables_in : Engine F H R W g → MemTables
  tables_in e = e.log.tables

  -- the Rewrite queue of an engine ends with an open atomic group
  abbrev pub HasOpenGroup : Engine F H R W g → Type 0
  HasOpenGroup e = EndsOpen e.log.store.pipes (directory_of e)

  -- no id is left for an atomic group
  abbrev pub HasLastId : Engine F H R W g → Type 0
  HasLastId e = ids_bound e.log.groups.ids ≡ 2 ^ 64

  -- the new files of a renewal in short calls that begins now
  abbrev pub next_files : Engine F H R W g → NewFiles
  next_files e = files_new None e.log.store.pipes.rewrite e.log.groups

  -- MayLeaveOpen, for an engine after a purge
  abbrev pub LeavesOpen : Purge → Engine F H R W g → Type 0
  LeavesOpen purge e = MayLeaveOpen purge e.log.store.pipes (directory_of e)

  -- MayLackId, for an engine after a purge
  abbrev pub LacksId : Purge → Engine F H R W g → Type 0
  LacksId purge e = MayLackId purge e.log.groups

  -- some marks that an engine owed are too long for a record, by its tables after a call
  abbrev pub OwesTooMuch : Engine F H R W g → Engine F H R W g → Type 0
  OwesTooMuch old new = HaveOwedNoRecord (tables_of new.log.tables) (owed_of old.log.owed) fault.Range
