-- What a writer's calls leave of the records of a log file.
use Rattle.std.proofs.Common.{◌≡◌, ℕ, ◌+◌, ◌≤◌, Bool, true, false, List, [], ◌∷◌, ◌++◌, length, take, Some, Contains, refl, ap, sym, subst, ◌∙◌, inl, inr, arith}
use Rattle.std.proofs.lemmas.List.{length-take-le}
use Rattle.std.proofs.lemmas.List.Elements.{Contains-append_cases}
use Rattle.raft_records.specs.Item.{Batch}
use Rattle.raft_records.specs.Record.{record_of}
use Rattle.raft_base.specs.declared.pipe_log.FileId.{FileId}
use Rattle.raft_files.specs.declared.format.LogFileFormat.{LogFileFormat}
use Rattle.raft_env.specs.Outcomes.{File, Outcome, IsPartOf, overlay, file_after_write}
use Rattle.raft_files.specs.Scan.{PlacedRecord, readable_records}
use Rattle.raft_files.specs.Detectable.{signature_by, IsFromCompletedCall, IsFreshAfter}
use Rattle.raft_files.specs.Records.{HoldsRecords, IsWrittenTo, IsTornFrom}
use Rattle.raft_files.specs.Writer.{IsStep, IsLengthened, IsAppending, IsAppended, IsCutting, IsCut, IsSynced, IsClosed}
use Rattle.raft_files.proofs.DetectableLemmas.{prefix_append}
use Rattle.raft_files.proofs.RecordsWriteLemmas.{record_given, holds_written, written_to_written, written_to_refused}
use Rattle.raft_files.proofs.RecordsLemmas.{keeps_weaker}
use Rattle.raft_files.proofs.ScanLemmas.{read_in}
use Rattle.raft_files.proofs.RecordsHeldLemmas.{read_of_held, ends_in_held}
use Rattle.raft_files.proofs.RecordsLengthLemmas.{written_to_changed, torn_changed, allocation_after, cut_after}
use Rattle.raft_files.proofs.RecordsSyncLemmas.{written_to_synced, torn_synced}

-- where nothing was written the file isn't torn
pub torn_from_written : (id : FileId) (format : LogFileFormat) (records in_flight : List PlacedRecord) (synced at : ℕ) (file : File) → length in_flight ≤ 1 → IsWrittenTo id format records synced at file → IsTornFrom id format records in_flight synced at file
torn_from_written id format records in_flight synced at file few w = record {
  keeps = keeps_weaker id format records (records ++ in_flight) synced synced file w.keeps (prefix_append records in_flight) (omega arith);
  few = w.keeps.few;
  holds = w.holds;
  few_in_flight = few;
  only = λ r has behind completed fresh. absurd (w.nothing (signature_by id format) r has behind completed fresh);
}

-- .. nor where the next record was written whole
torn_from_more : (id : FileId) (format : LogFileFormat) (records in_flight : List PlacedRecord) (synced at end : ℕ) (file : File) → length in_flight ≤ 1 → HoldsRecords id format records at file.now → synced ≤ length records →
    IsWrittenTo id format (records ++ in_flight) synced end file → IsTornFrom id format records in_flight synced at file
torn_from_more id format records in_flight synced at end file few holds enough w = record {
  keeps = w.keeps;
  few = enough;
  holds = holds;
  few_in_flight = few;
  only = only;
}
  where
    only : (r : PlacedRecord) → Contains (readable_records id file.now) r → at ≤ r.at → IsFromCompletedCall id (signature_by id format) (file.changes ++ file.older) r → IsFreshAfter (signature_by id format) file.renamed_after (file.changes ++ file.older) r → Contains in_flight r
    only r has behind completed fresh = elim (read_of_held id format (records ++ in_flight) end file.now w.holds r has) [
      | inr further ↦ absurd (w.nothing (signature_by id format) r has further completed fresh)
      | inl inside ↦ elim (Contains-append_cases records in_flight r inside) [
        | inr last ↦ last
        | inl first ↦ absurd (omega (arith, (read_in id file.now r has).long, ends_in_held id format records at file.now holds r first))
      ]
    ]

pub lengthened : (id : FileId) (format : LogFileFormat) (records : List PlacedRecord) (synced at room new_room : ℕ) (old new : File) → IsWrittenTo id format records synced at old → IsLengthened room new_room old new → IsWrittenTo id format records synced at new
lengthened id format records synced at room new_room old new w (inl same) = subst (IsWrittenTo id format records synced at) (sym same) w
lengthened id format records synced at room new_room old new w (inr (grows, inl same)) = subst (IsWrittenTo id format records synced at) (sym same) w
lengthened id format records synced at room new_room old new w (inr (grows, inr (after, is_done, outcome, is))) =
    subst (IsWrittenTo id format records synced at) (sym is)
    (written_to_changed id format records synced at old _ w (allocation_after new_room at is_done after old.now old.renamed_after (old.changes ++ old.older) w.holds.within w.empty outcome))

-- an append that is done
pub appended : (id : FileId) (format : LogFileFormat) (records : List PlacedRecord) (synced at room new_room : ℕ) (old new : File) (given : List ℕ) (batch : Batch) → IsWrittenTo id format records synced at old → record_of (signature_by id format) given ≡ Some (batch, length given) →
    IsAppended room new_room at given old new → IsWrittenTo id format (records ++ record_given at given batch ∷ []) synced (at + length given) new
appended id format records synced at room new_room old new given batch w is how =
    let mid = lengthened id format records synced at room new_room old how.0 w how.1 in
    subst (λ f. IsWrittenTo id format (records ++ record_given at given batch ∷ []) synced (at + length given) f) (sym how.2) (written_to_written id format records synced at how.0 given batch mid is)

-- a moment of an append, or what a failed one leaves
pub appending : (id : FileId) (format : LogFileFormat) (records : List PlacedRecord) (synced at room new_room : ℕ) (old new : File) (given : List ℕ) (batch : Batch) → IsWrittenTo id format records synced at old → record_of (signature_by id format) given ≡ Some (batch, length given) →
    IsAppending room new_room at given old new → IsTornFrom id format records (record_given at given batch ∷ []) synced at new
appending id format records synced at room new_room old new given batch w is how =
    let mid = lengthened id format records synced at room new_room old how.0 w how.1 in
    by_step how.0 mid how.2
  where
    one : List PlacedRecord
    one = record_given at given batch ∷ []

    by_outcome : (file : File) → IsWrittenTo id format records synced at file → (is_done : Bool) (after : List ℕ) → Outcome is_done (overlay file.now at given) (IsPartOf at (length given) file.now) after → IsTornFrom id format records one synced at (file_after_write at given is_done after file)
    by_outcome file mid true after completed =
        let torn = torn_from_more id format records one synced at (at + length given) (file_after_write at given true (overlay file.now at given) file) (omega arith)
        (holds_written id format records at file.now given mid.holds) mid.keeps.few (written_to_written id format records synced at file given batch mid is) in
        subst (λ bytes. IsTornFrom id format records one synced at (file_after_write at given true bytes file)) (sym completed) torn
    by_outcome file mid false after part = written_to_refused id format records synced at file given batch after mid is part

    by_step : (file : File) → IsWrittenTo id format records synced at file → IsStep (file_after_write at given) (λ now. overlay now at given) (IsPartOf at (length given)) file new → IsTornFrom id format records one synced at new
    by_step file mid (inl same) = subst (λ f. IsTornFrom id format records one synced at f) (sym same) (torn_from_written id format records one synced at file (omega arith) mid)
    by_step file mid (inr step) = subst (λ f. IsTornFrom id format records one synced at f) (sym step.3) (by_outcome file mid step.1 step.0 step.2)

-- a moment of a cut
pub cutting : (id : FileId) (format : LogFileFormat) (records : List PlacedRecord) (synced at : ℕ) (old new : File) → IsWrittenTo id format records synced at old → IsCutting at old new → IsWrittenTo id format records synced at new
cutting id format records synced at old new w (inl same) = subst (IsWrittenTo id format records synced at) (sym same) w
cutting id format records synced at old new w (inr (after, is_done, outcome, is)) =
    subst (IsWrittenTo id format records synced at) (sym is)
    (written_to_changed id format records synced at old _ w (cut_after at is_done after old.now old.renamed_after (old.changes ++ old.older) w.holds.within outcome))

pub cutting_back : (id : FileId) (format : LogFileFormat) (records in_flight : List PlacedRecord) (synced at : ℕ) (old new : File) → IsTornFrom id format records in_flight synced at old → IsCutting at old new → IsTornFrom id format records in_flight synced at new
cutting_back id format records in_flight synced at old new torn (inl same) = subst (IsTornFrom id format records in_flight synced at) (sym same) torn
cutting_back id format records in_flight synced at old new torn (inr (after, is_done, outcome, is)) =
    subst (IsTornFrom id format records in_flight synced at) (sym is)
    (torn_changed id format records in_flight synced at old _ torn (cut_after at is_done after old.now old.renamed_after (old.changes ++ old.older) torn.holds.within outcome))

-- a cut that is done
is_cutting : (at : ℕ) (old new : File) → IsCut at old new → IsCutting at old new
is_cutting at old new (inl same) = inl same
is_cutting at old new (inr is) = inr (take at old.now, true, refl, is)

pub cut : (id : FileId) (format : LogFileFormat) (records : List PlacedRecord) (synced at : ℕ) (old new : File) → IsWrittenTo id format records synced at old → IsCut at old new → IsWrittenTo id format records synced at new
cut id format records synced at old new w how = cutting id format records synced at old new w (is_cutting at old new how)

-- a sync that is done
pub synced : (id : FileId) (format : LogFileFormat) (records : List PlacedRecord) (count at : ℕ) (old new : File) → IsWrittenTo id format records count at old → IsSynced old new → IsWrittenTo id format records (length records) at new
synced id format records count at old new w is = subst (λ f. IsWrittenTo id format records (length records) at f) (sym is) (written_to_synced id format records count at old w)

-- a closing that is done takes back what a failed append left
pub closed_back : (id : FileId) (format : LogFileFormat) (records in_flight : List PlacedRecord) (count at : ℕ) (old new : File) → IsTornFrom id format records in_flight count at old → IsClosed at old new → IsWrittenTo id format records (length records) at new
closed_back id format records in_flight count at old new torn (mid, how, bytes, is) =
    let cut_file = cutting_back id format records in_flight count at old mid torn (is_cutting at old mid how) in
    subst (IsWrittenTo id format records (length records) at) (sym is) (torn_synced id format records in_flight count at mid cut_file (ap length bytes ∙ length-take-le at old.now torn.holds.within))

pub closed : (id : FileId) (format : LogFileFormat) (records : List PlacedRecord) (count at : ℕ) (old new : File) → IsWrittenTo id format records count at old → IsClosed at old new → IsWrittenTo id format records (length records) at new
closed id format records count at old new w how = closed_back id format records [] count at old new (torn_from_written id format records [] count at old (omega arith) w) how
