-- The premise on torn and stale bytes can be met.
use Rattle.std.proofs.Common.{◌≡◌, ℕ, ◌≤◌, List, Some, take, ap, sym, subst, ◌∙◌, inl, inr, arith}
use Rattle.std.specs.FinMap as finite
use Rattle.raft_records.specs.Item.{Batch}
use Rattle.raft_base.specs.declared.pipe_log.FileId.{FileId}
use Rattle.raft_files.specs.declared.format.LogFileFormat.{LogFileFormat}
use Rattle.raft_env.specs.Outcomes.{File, MayLeave, is_touched}
use Rattle.raft_env.specs.Directory.{Directory, CrashImage, Path, Leaves, file_at}
use Rattle.raft_memory.specs.Choice.{touched_before, bytes_by_choice, bytes_by_choice_at, choice_for, left_by, NamesNoBytes}
use Rattle.raft_env.specs.Consistent.{IsConsistent, AreConsistent}
use Rattle.raft_memory.specs.Choice.{AreWhole}
use Rattle.raft_files.specs.Detectable.{IsDetectableFile, IsDetectable}
use Rattle.raft_files.specs.Records.{HoldsRecords}
use Rattle.raft_files.specs.Scan.{PlacedRecord}
use Rattle.raft_files.specs.Completed.{HasCompletedLog, HasCompletedRecords}
use Rattle.raft_queue_laws.specs.DetectableDamage.{HasNoStaleRecord, IsBrokenFrom, IsTornAfter, IsTornAsRead}
use Rattle.raft_memory.specs.declared.crash.Choice.{Choice}
use Rattle.raft_memory.specs.declared.crash.Choice.TheVariants as choice
use Rattle.raft_files.proofs.ScanExtentLemmas.{same_some}
use Rattle.raft_memory.proofs.ChoiceWholeLemmas.{whole_choice}
use Rattle.raft_memory.proofs.ChoiceTornLemmas.{choice_may_leave, length-torn, take-torn}
use Rattle.raft_queue_laws.proofs.DetectableDamageLemmas.{HoldsFreshRecords, completed_fresh, now_is_torn, reading-now, synced_is_torn, torn_is_detectable}

-- Records that no failed call brought, and that are fresh.

module _ (path : Path) (id : FileId) (format : LogFileFormat) (records : List PlacedRecord) (synced at : ℕ) (n : Directory) (file : File) (stands : file_at n path ≡ Some file) (held : HoldsFreshRecords id format records synced at file) (consistent : AreConsistent n) where
  is_consistent : IsConsistent file
  is_consistent = consistent path file stands

  detectable_at : (d : CrashImage) → MayLeave file (d path) → IsTornAfter id format records file (d path) → IsDetectable path id n d
  detectable_at d may is_torn other there = subst (λ f. IsDetectableFile id f (d path)) (same_some (sym stands ∙ there)) (torn_is_detectable id format records synced at file (d path) held is_consistent.latest may is_torn)

  -- damage after the first of them can be told
  pub fresh_detectable : (d : CrashImage) → Leaves n d → IsTornAfter id format records file (d path) → IsDetectable path id n d
  fresh_detectable d leaves = detectable_at d (leaves.each path file stands)

  module _ (choices : List Choice) where
    left_at : (c : Choice) → choice_for choices (finite.keys n.files) path ≡ c → left_by choices n path ≡ bytes_by_choice c file
    left_at c is = ap (λ x. bytes_by_choice_at x (file_at n path)) is ∙ ap (bytes_by_choice_at c) stands

    detectable_by : (c : Choice) → choice_for choices (finite.keys n.files) path ≡ c → NamesNoBytes c → IsTornAfter id format records file (bytes_by_choice c file) → IsDetectable path id n (left_by choices n)
    detectable_by c is none is_torn =
        let left = sym (left_at c is) in
        detectable_at (left_by choices n) (subst (MayLeave file) left (choice_may_leave file is_consistent c none)) (subst (IsTornAfter id format records file) left is_torn)

    -- so that of a torn file that keeps the first of them
    fresh_torn : (kept fill count end : ℕ) → choice_for choices (finite.keys n.files) path ≡ choice.Torn kept fill → HoldsRecords id format (take count records) end file.now → touched_before (is_touched file.changes) end ≤ kept →
        IsBrokenFrom id format end (left_by choices n path) → IsDetectable path id n (left_by choices n)
    fresh_torn kept fill count end is holds enough broken =
        let touched = is_touched file.changes in
        let within = holds.within in
        detectable_by (choice.Torn kept fill) is tt (record {
          count = count;
          end = end;
          holds = holds;
          within = omega (arith, within, length-torn touched kept fill file.now);
          same = take-torn touched kept fill file.now end within enough;
          broken = subst (IsBrokenFrom id format end) (left_at (choice.Torn kept fill) is) broken;
        })

    -- .. and that of a file with all its bytes or those of its last sync
    fresh_whole : AreWhole choices → IsTornAfter id format records file file.now → IsDetectable path id n (left_by choices n)
    fresh_whole whole now = elim (whole_choice choices whole _) [
      | inl all ↦ detectable_by choice.All all tt now
      | inr old ↦ detectable_by choice.Synced old tt (synced_is_torn id format records synced at file is_consistent held)
    ]

-- Of a file without a stale record.

module _ (path : Path) (id : FileId) (format : LogFileFormat) (batches : List Batch) (synced at : ℕ) (n : Directory) (log : HasCompletedRecords path id format batches synced at n) (none : HasNoStaleRecord id log.file) (consistent : AreConsistent n) where
  fresh : HoldsFreshRecords id format log.records synced at log.file
  fresh = completed_fresh id format log.records synced at log.file log.held none

  pub records_detectable : (d : CrashImage) → Leaves n d → IsTornAfter id format log.records log.file (d path) → IsDetectable path id n d
  records_detectable = fresh_detectable path id format log.records synced at n log.file log.stands fresh consistent

  pub records_torn : (choices : List Choice) (kept fill count end : ℕ) → choice_for choices (finite.keys n.files) path ≡ choice.Torn kept fill → HoldsRecords id format (take count log.records) end log.file.now → touched_before (is_touched log.file.changes) end ≤ kept →
      IsBrokenFrom id format end (left_by choices n path) → IsDetectable path id n (left_by choices n)
  records_torn = fresh_torn path id format log.records synced at n log.file log.stands fresh consistent

-- .. and that of a log with all its bytes or those of its last sync
pub log_whole : (path : Path) (id : FileId) (format : LogFileFormat) (batches : List Batch) (synced at : ℕ) (n : Directory) (log : HasCompletedLog path id format batches synced at n) → HasNoStaleRecord id log.held.file → AreConsistent n → (choices : List Choice) → AreWhole choices →
    IsDetectable path id n (left_by choices n)
log_whole path id format batches synced at n log none consistent choices whole =
    let held = log.held in
    fresh_whole path id format held.records synced at n held.file held.stands (completed_fresh id format held.records synced at held.file held.held none) consistent choices whole
    (now_is_torn id format held.records synced at held.file (record { written = log.written; held = held.held; past = log.past }) none)

-- .. and that of one that is torn after the first of the records that can be read of it
pub log_torn : (path : Path) (id : FileId) (format : LogFileFormat) (batches : List Batch) (synced at : ℕ) (n : Directory) (log : HasCompletedLog path id format batches synced at n) → HasNoStaleRecord id log.held.file → AreConsistent n → (d : CrashImage) → Leaves n d → IsTornAsRead id log.held.file (d path) →
    IsDetectable path id n d
log_torn path id format batches synced at n log none consistent d leaves torn =
    let held = log.held in
    let read = reading-now id format held.records synced at held.file (record { written = log.written; held = held.held; past = log.past }) none in
    records_detectable path id format batches synced at n held none consistent d leaves (torn _ read)
