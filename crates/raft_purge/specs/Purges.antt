-- What a purge makes of the log, and leaves of what it was lent.
use Rattle.std.specs.Prelude.{◌≡◌, ◌+◌, ◌⊎◌, ℕ, IfErr, IfOk, List, OnOk, Result}
use Rattle.raft_base.specs.declared.errors.Fault.{Fault}
use Rattle.raft_base.specs.declared.pipe_log.LogQueue.{LogQueue}
use Rattle.raft_base.specs.declared.pipe_log.LogQueue.TheVariants.{Append, Rewrite}
use Rattle.raft_env.specs.Directory.{Directory}
use Rattle.raft_env.specs.Refusal.{Refusals}
use Rattle.raft_env.specs.declared.env.FileSystem.{Ghosts as FsGhosts}
use Rattle.raft_entry_blocks.specs.Cache.{HoldsRestIn}
use Rattle.raft_entry_blocks.specs.Recent.{KeptBlocks}
use Rattle.raft_listeners.specs.declared.event_sink.EventSink.{Ghosts}
use Rattle.raft_listeners.specs.declared.purge_events.PurgeEvents.{PurgeEvents}
use Rattle.raft_queues.specs.Dual.{DualState, KeepsOtherPipe, pipe_of}
use Rattle.raft_tables.specs.Owed.{Owed}
use Rattle.raft_tables.specs.OwedMarks.{owed_of}
use Rattle.raft_tables.specs.Tables.{Tables, tables_of}
use Rattle.raft_tables.specs.declared.rewritten.GroupsMet.{GroupsMet}
use Rattle.raft_crash_laws.specs.Index.{LogIndex}
use Rattle.raft_crash_laws.specs.Log.{known_groups}
use Rattle.raft_purge_steps.specs.Cut.{AddsRest}
use Rattle.raft_purge_steps.specs.Faults.{HaveOwedNoRecord, IsPurgeRefusal, KeepsFolders}
use Rattle.raft_purge_steps.specs.Keeping.{KeepsRewriting, StillHolds}
use Rattle.raft_purge_steps.specs.Logs.{HoldsRest, by_groups_of, by_marks_of}
use Rattle.raft_purge_steps.specs.Steps.{IfStands, IsLog, LogValue, by_marks, log_by}
use Rattle.raft_purge_steps.specs.Unfit.{IsUnfitWhere}
use Rattle.raft_purge_steps.specs.declared.fault.StepFault.{StepFault}
use Rattle.raft_purge_steps.specs.declared.log.Log.{Log}
use Rattle.raft_rewrite.specs.OpenGroup.{HasNoId, IsAtomicRefusal}
use Rattle.raft_stale.specs.Dropping.{IfFails, KeepsFront}

-- why a purge that writes atomic groups fails: IsAtomicRefusal, or no id is left
abbrev pub IsRenewRefusal : GroupsMet → DualState → DualState → Directory → Refusals → Refusals
    → (Fault → Type 0) → StepFault → Type 0
IsRenewRefusal groups d d' n' old new IsUnfit =
    IsAtomicRefusal d d' n' old new (λ e. HasNoId groups e ⊎ IsUnfit e)

-- why a purge that writes owed marks fails: IsPurgeRefusal, or such marks have no record
abbrev pub IsOwedRefusal : Tables → Owed → DualState → DualState → Directory → Refusals → Refusals
    → (Fault → Type 0) → StepFault → Type 0
IsOwedRefusal t owed d d' n' old new IsUnfit =
    IsPurgeRefusal d d' n' old new (λ e. HaveOwedNoRecord t owed e ⊎ IsUnfit e)

-- why a purge that writes atomic groups and owed marks fails: a cause of either
abbrev pub IsExpiredRefusal : Tables → Owed → GroupsMet → DualState → DualState → Directory → Refusals
    → Refusals → (Fault → Type 0) → StepFault → Type 0
IsExpiredRefusal t owed groups d d' n' old new IsUnfit =
    IsRenewRefusal groups d d' n' old new (λ e. HaveOwedNoRecord t owed e ⊎ IsUnfit e)

-- the log holds this value, under one of these indexes
abbrev pub IsLogBy : {X : Type 0} → (X → LogIndex) → DualState → Directory → LogValue → Type 0
IsLogBy {X} i d n v = (x : X) × IsLog (log_by d (i x) n) v

-- for files with this directory, these moments inside calls, and these counts of failed calls
module _ {F : Type 0} (directory : F → Directory) (moments : F → List Directory)
    (refusals_of : F → Refusals) where
  -- the purge keeps the log, returns how many of its queue's files it dropped, and fails for `Why`
  pub record Purges {X L : Type 0} {g : Ghosts L} (queue : LogQueue)
      (Why : DualState → DualState → Directory → Refusals → Refusals → (Fault → Type 0) → StepFault
      → Type 0)
      (IsCutSo : PurgeEvents L g → PurgeEvents L g → Type 0) (result : Result ℕ StepFault)
      (i i' : X → LogIndex) (d d' : DualState) (kept' : KeptBlocks) (old new : F)
      (events events' : PurgeEvents L g) : Type 0 where
    pub log : StillHolds directory moments refusals_of result i i' d d' old new events events'
    pub value : IfOk result (λ count. (pipe_of queue d).first + count ≡ (pipe_of queue d').first)
    pub front : IfFails result (KeepsFront queue d d')
    pub cut : OnOk result (IsCutSo events events')
    pub holds : IfStands result (HoldsRestIn d' (directory new) kept')
    pub cause : IfErr result (Why d d' (directory new) (refusals_of old) (refusals_of new)
        (IsUnfitWhere (IsLogBy i d (directory old))))

module _ {F H R W : Type 0} (fs : FsGhosts F H R W) where
  -- Purges, from one log to another
  abbrev pub PurgesBy : {X L : Type 0} → {g : Ghosts L} → LogQueue
      → (DualState → DualState → Directory → Refusals → Refusals → (Fault → Type 0) → StepFault
      → Type 0)
      → (PurgeEvents L g → PurgeEvents L g → Type 0) → Result ℕ StepFault → (X → LogIndex)
      → (X → LogIndex) → Log F H R W → Log F H R W → PurgeEvents L g → PurgeEvents L g → Type 0
  PurgesBy queue Why IsCutSo result i i' l l' events events' = Purges fs.directory fs.moments
      fs.refusals_of queue Why IsCutSo result i i' l.store.pipes l'.store.pipes l'.cache
      l.store.file_system l'.store.file_system events events'

  -- a purge of the Append queue that writes owed marks, whatever the known atomic groups are
  abbrev pub PurgesAppend : {L : Type 0} → {g : Ghosts L} → Result ℕ StepFault → Log F H R W
      → Log F H R W → PurgeEvents L g → PurgeEvents L g → Type 0
  PurgesAppend result l l' events events' =
      PurgesBy Append (IsOwedRefusal (tables_of l'.tables) (owed_of l.owed)) AddsRest result
      (by_groups_of l) (by_groups_of l') l l' events events'

  -- a purge of the Rewrite queue that writes atomic groups, whatever the owed marks are
  abbrev pub PurgesRewrite : {L : Type 0} → {g : Ghosts L} → Result ℕ StepFault → Log F H R W
      → Log F H R W → PurgeEvents L g → PurgeEvents L g → Type 0
  PurgesRewrite result l l' events events' = PurgesBy Rewrite (IsRenewRefusal l'.groups) AddsRest
      result (by_marks_of l) (by_marks_of l') l l' events events'

  -- groups are written to the Rewrite queue again; at most one more written batch is not full
  pub record WritesAgain {T L : Type 0} {g : Ghosts L} (result : Result T StepFault)
      (l l' : Log F H R W) (events events' : PurgeEvents L g) : Type 0 where
    pub keeps : KeepsRewriting result l.store.pipes l'.store.pipes events events'
    pub cut : OnOk result (AddsRest events events')
    pub holds : IfStands result (HoldsRest fs l')

  -- a renewal: PurgesRewrite, and the Append queue's pipe is the same
  pub record Renews {L : Type 0} {g : Ghosts L} (result : Result ℕ StepFault) (l l' : Log F H R W)
      (events events' : PurgeEvents L g) : Type 0 where
    pub purges : PurgesRewrite result l l' events events'
    pub others : KeepsOtherPipe Rewrite l.store.pipes l'.store.pipes
    pub folders : OnOk result (KeepsFolders l.store.pipes l'.store.pipes)
    pub together : l'.groups.together ≡ l.groups.together
