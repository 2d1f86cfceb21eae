-- The damage of a crash can be told.
use Rattle.std.proofs.Common.{◌≡◌, ℕ, ◌<◌, ◌≤◌, List, [], ◌++◌, length, take, drop, slice_index, Option, Some, None, Contains, refl, ap, sym, subst, ◌∙◌, inl, inr, arith, length-drop}
use Rattle.std.proofs.lemmas.List.{append-nil, take_all, take-take, take-append-drop, length-take}
use Rattle.std.proofs.lemmas.List.Elements.{Contains-append_left}
use Rattle.raft_records.specs.Record.{record_header, parts_by}
use Rattle.raft_base.specs.declared.pipe_log.FileId.{FileId}
use Rattle.raft_files.specs.declared.format.LogFileFormat.{LogFileFormat}
use Rattle.raft_env.specs.Outcomes.{Change, File, MayLeave, least_len, untouched_len, bytes_after}
use Rattle.raft_files.specs.Scan.{PlacedRecord, record_place, record_at, next_record, end_of_records, ScanResult, records_after, scan_file, records_of, readable_records}
use Rattle.raft_files.specs.Detectable.{IsPrefixOf, format_of, signature_by, AreFresh, AreFromCompletedCalls, HasCompressedAt, IsDetectableFile}
use Rattle.raft_files.specs.Records.{ReadsFirst, HoldsRecords}
use Rattle.raft_env.specs.Consistent.{IsConsistent}
use Rattle.raft_files.specs.Completed.{EndsInZeros, EndsUnwritten, HoldsCompletedRecords}
use Rattle.raft_queue_laws.specs.DetectableDamage.{HasNoStaleRecord, IsBrokenFrom, IsTornAfter, ShowsNoStale}
use Rattle.raft_files.proofs.CompletedZerosLemmas.{never_stale, only_unwritten}
use Rattle.raft_files.proofs.CompletedLemmas.{IsWrittenByCompletedCalls}
use Rattle.raft_files.proofs.DetectableLemmas.{prefix_itself, prefix_trans, prefix_append}
use Rattle.raft_files.proofs.ScanExtentLemmas.{record_header_is, same_some, some_then}
use Rattle.raft_files.proofs.ScanPlacedLemmas.{placed_by-none}
use Rattle.raft_files.proofs.ScanLemmas.{found_record, record_place-forward, reading_is}
use Rattle.raft_env.proofs.OutcomesLemmas.{same_front}
use Rattle.raft_files.proofs.RecordsEmptyLemmas.{record_header_zeros}
use Rattle.raft_files.proofs.RecordsHeldLemmas.{reading-held, readable-held, format_of_read, format_of-held}
use Rattle.raft_files.proofs.RecordsLemmas.{reads_first-within, reads_first-kept}
use Rattle.raft_files.proofs.RecordsLengthLemmas.{holds_same}
use Rattle.raft_env.proofs.ConsistentLemmas.{now_may_be_left, before_is_untouched}

-- a file that holds these records, each of them fresh and brought by no failed call, and held the
-- first of them at its last sync, where none decoded after them
pub record HoldsFreshRecords (id : FileId) (format : LogFileFormat) (records : List PlacedRecord) (synced at : ℕ) (file : File) : Type 0 where
  pub holds : HoldsRecords id format records at file.now
  pub completed : AreFromCompletedCalls id (signature_by id format) (file.changes ++ file.older) records
  pub fresh : AreFresh (signature_by id format) file.renamed_after (file.changes ++ file.older) records
  pub end : ℕ
  pub begins : HoldsRecords id format (take synced records) end file.synced
  pub broken : IsBrokenFrom id format end file.synced
  -- no change touched what stands before that, and none left the file shorter
  pub apart : end ≤ untouched_len file.synced file.changes
  pub long : end ≤ least_len file.synced file.changes

-- Zeros.

none_unless : {A : Type 0} (o : Option A) → ((x : A) → o ≡ Some x → ⊥) → o ≡ None
none_unless None never = refl
none_unless (Some x) never = absurd (never x refl)

-- where zeros alone stand there is no record
pub broken_zeros : (id : FileId) (format : LogFileFormat) (at : ℕ) (bytes : List ℕ) → EndsInZeros at bytes → IsBrokenFrom id format at bytes
broken_zeros id format at bytes ends = (none_unless (record_at signature bytes place) no_record, no_mark)
  where
    signature : Option ℕ
    signature = signature_by id format

    place : ℕ
    place = record_place format.alignment bytes at

    no_record : (found : PlacedRecord) → record_at signature bytes place ≡ Some found → ⊥
    no_record found e =
        let forward : at ≤ place = record_place-forward format.alignment bytes at in
        let is = found_record signature bytes place found e in
        record_header_zeros bytes place is.header (omega (arith, is.long, is.within)) (λ i above below. ends.zeros i (omega arith) (omega (arith, is.long, is.within))) is.has

    no_mark : HasCompressedAt signature bytes place → ⊥
    no_mark marked =
        let forward : at ≤ place = record_place-forward format.alignment bytes at in
        let header = some_then (parts_by signature (drop place bytes)) (record_header (drop place bytes)) marked.0 marked.1 in
        let has = record_header_is (drop place bytes) header.0 header.1 in
        record_header_zeros bytes place header.0 (omega (arith, has.long, length-drop place bytes)) (λ i above below. ends.zeros i (omega arith) (omega (arith, has.long, length-drop place bytes))) header.1

-- Readings.

-- where no record stands after those that bytes hold, the reading ends with them
reading-broken : (id : FileId) (format : LogFileFormat) (records : List PlacedRecord) (at : ℕ) (bytes : List ℕ) → HoldsRecords id format records at bytes → IsBrokenFrom id format at bytes →
    scan_file id bytes ≡ Some (record { format = format; records = records; end = at })
reading-broken id format records at bytes holds broken =
    let none : records_after id format bytes at ≡ [] = placed_by-none (next_record id format bytes) (length bytes) at broken.0 in
    reading-held id format records at bytes holds
    ∙ ap (λ rs. Some (record { format = format; records = records ++ rs; end = end_of_records at rs })) none
    ∙ ap (λ rs. Some (record { format = format; records = rs; end = at })) (append-nil records)

reading-torn : (id : FileId) (format : LogFileFormat) (records : List PlacedRecord) (file : File) (left : List ℕ) (torn : IsTornAfter id format records file left) → scan_file id left ≡ Some (record { format = format; records = take torn.count records; end = torn.end })
reading-torn id format records file left torn = reading-broken id format (take torn.count records) torn.end left (holds_same id format (take torn.count records) torn.end file.now left torn.holds (sym torn.same) torn.within) torn.broken

-- Outcomes.

-- a prefix of bytes is read as a prefix of their records
pub readable_records-take : (id : FileId) (n : ℕ) (bytes : List ℕ) → IsPrefixOf (readable_records id (take n bytes)) (readable_records id bytes)
readable_records-take id n bytes = by_reading (scan_file id (take n bytes)) refl
  where
    by_reading : (read : Option ScanResult) → scan_file id (take n bytes) ≡ read → IsPrefixOf (records_of read) (readable_records id bytes)
    by_reading None e = (readable_records id bytes, refl)
    by_reading (Some r) e =
        let is = reading_is id (take n bytes) r e in
        let last = length (take n bytes) in
        let short : last ≤ n = omega (arith, length-take n bytes) in
        let reads : ReadsFirst id r.format r.records (take n bytes) = record { all = r.records; end = r.end; read = e; first = prefix_itself r.records } in
        let same : take last (take n bytes) ≡ take last bytes = take-take last n bytes short in
        let whole = reads_first-kept id r.format r.records last (take n bytes) bytes reads same (reads_first-within id r.format r.records (take n bytes) reads) in
        subst (λ rs. IsPrefixOf r.records rs) (sym (ap (λ q. records_of q) whole.read)) whole.first

-- what the last sync found reads as the synced records
readable-synced : (id : FileId) (format : LogFileFormat) (records : List PlacedRecord) (synced at : ℕ) (file : File) → HoldsFreshRecords id format records synced at file → readable_records id file.synced ≡ take synced records
readable-synced id format records synced at file completed =
    ap records_of (reading-broken id format (take synced records) completed.end file.synced completed.begins completed.broken)

-- .. so each outcome that storage allows begins with it
synced_left : (id : FileId) (format : LogFileFormat) (records : List PlacedRecord) (synced at : ℕ) (file : File) (left : List ℕ) → (completed : HoldsFreshRecords id format records synced at file) → MayLeave file left → (completed.end ≤ length left) × (take completed.end file.synced ≡ take completed.end left)
synced_left id format records synced at file left completed may =
    let apart = completed.apart in
    let within = completed.begins.within in
    let long : completed.end ≤ length left = omega (arith, completed.long, may.no_shorter) in
    let each : (i : ℕ) → i < completed.end → slice_index file.synced i ≡ slice_index left i = λ i before. sym (may.untouched i (omega arith) (omega arith) (before_is_untouched file.synced file.changes i (omega arith))) in
    (long, same_front completed.end file.synced left within long each)

-- the damage of an outcome can be told that holds the first records as they stand now and is broken after them
pub torn_is_detectable : (id : FileId) (format : LogFileFormat) (records : List PlacedRecord) (synced at : ℕ) (file : File) (left : List ℕ) → HoldsFreshRecords id format records synced at file → file.now ≡ bytes_after file.synced file.changes → MayLeave file left → IsTornAfter id format records file left → IsDetectableFile id file left
torn_is_detectable id format records synced at file left completed latest may torn = record {
  newer = [];
  upto = file.changes;
  moment = refl;
  header = inl (header ∙ sym (format_of-held id format records at file.now completed.holds) ∙ ap format_of latest);
  prefix = subst (λ b. IsPrefixOf read (readable_records id b)) latest prefix;
  completed = λ other is.
      let same : other ≡ format = same_some (sym is ∙ header) in
      subst (λ f. AreFromCompletedCalls id (signature_by id f) (file.changes ++ file.older) read) (sym same) (λ r has. completed.completed r (among r has));
  untouched = prefix_trans (readable_records id untouched) (take synced records) read untouched_read synced_read;
  unmarked = λ r e marked.
      let whole : ScanResult = record { format = format; records = take torn.count records; end = torn.end } in
      let same : r ≡ whole = same_some (sym e ∙ whole_read) in
      torn.broken.1 (subst (λ (q : ScanResult). HasCompressedAt (signature_by id q.format) left (record_place q.format.alignment left q.end)) same marked);
  none_stale = λ other is.
      let same : other ≡ format = same_some (sym is ∙ header) in
      subst (λ f. AreFresh (signature_by id f) file.renamed_after (file.changes ++ file.older) read) (sym same) (λ r has. completed.fresh r (among r has));
}
  where
    whole_read : scan_file id left ≡ Some (record { format = format; records = take torn.count records; end = torn.end })
    whole_read = reading-torn id format records file left torn

    header : format_of left ≡ Some format
    header = format_of_read id left _ whole_read

    read : List PlacedRecord
    read = readable_records id left

    read_is : read ≡ take torn.count records
    read_is = ap records_of whole_read

    among : (r : PlacedRecord) → Contains read r → Contains records r
    among r has = subst (λ rs. Contains rs r) (take-append-drop torn.count records) (Contains-append_left (take torn.count records) (drop torn.count records) r (subst (λ rs. Contains rs r) read_is has))

    prefix : IsPrefixOf read (readable_records id file.now)
    prefix = subst (λ rs. IsPrefixOf rs (readable_records id file.now)) (sym read_is)
        (subst (λ rs. IsPrefixOf (take torn.count records) rs) (sym (readable-held id format (take torn.count records) torn.end file.now torn.holds)) (prefix_append (take torn.count records) _))

    untouched : List ℕ
    untouched = take (untouched_len file.synced file.changes) file.synced

    untouched_read : IsPrefixOf (readable_records id untouched) (take synced records)
    untouched_read = subst (λ rs. IsPrefixOf (readable_records id untouched) rs) (readable-synced id format records synced at file completed) (readable_records-take id (untouched_len file.synced file.changes) file.synced)

    synced_read : IsPrefixOf (take synced records) read
    synced_read =
        let begins = synced_left id format records synced at file left completed may in
        let holds = holds_same id format (take synced records) completed.end file.synced left completed.begins begins.1 begins.0 in
        subst (λ rs. IsPrefixOf (take synced records) rs) (sym (readable-held id format (take synced records) completed.end left holds)) (prefix_append (take synced records) _)

-- Stale bytes.

-- a file that was never renamed has none
pub never_stale_record : (id : FileId) (file : File) → file.renamed_after ≡ None → HasNoStaleRecord id file
never_stale_record id file never = record {
  now = λ format i is untried. absurd (never_stale file.renamed_after (file.changes ++ file.older) i never untried.0);
  synced = λ format i is untried. absurd (never_stale file.renamed_after file.older i never untried.0);
}

-- where nothing was written none decodes
broken_unwritten : (id : FileId) (format : LogFileFormat) (at : ℕ) (bytes : List ℕ) (renamed : Option ℕ) (changes : List Change) → format_of bytes ≡ Some format → ShowsNoStale id renamed changes bytes → EndsUnwritten at bytes renamed changes → IsBrokenFrom id format at bytes
broken_unwritten id format at bytes renamed changes is none (inl zeros) = broken_zeros id format at bytes zeros
broken_unwritten id format at bytes renamed changes is none (inr untried) = none format at is (untried at (omega arith))

-- .. so none does at the last sync after the records then
pub completed_fresh : (id : FileId) (format : LogFileFormat) (records : List PlacedRecord) (synced at : ℕ) (file : File) → HoldsCompletedRecords id format records synced at file → HasNoStaleRecord id file → HoldsFreshRecords id format records synced at file
completed_fresh id format records synced at file held none = record {
  holds = held.holds;
  completed = held.completed.completed;
  fresh = held.completed.fresh;
  end = held.end;
  begins = held.begins;
  broken = broken_unwritten id format held.end file.synced file.renamed_after file.older (format_of-held id format (take synced records) held.end file.synced held.begins) none.synced held.unwritten;
  apart = held.apart;
  long = held.long;
}

-- what holds all bytes now is one, where none decodes after them
pub whole_is_torn : (id : FileId) (format : LogFileFormat) (records : List PlacedRecord) (at : ℕ) (file : File) → HoldsRecords id format records at file.now → IsBrokenFrom id format at file.now → IsTornAfter id format records file file.now
whole_is_torn id format records at file holds broken =
    let all : take (length records) records ≡ records = take_all (length records) records (omega arith) in
    record {
      count = length records;
      end = at;
      holds = subst (λ rs. HoldsRecords id format rs at file.now) (sym all) holds;
      within = holds.within;
      same = refl;
      broken = broken;
    }

module _ (id : FileId) (format : LogFileFormat) (records : List PlacedRecord) (synced at : ℕ) (file : File) (completed : IsWrittenByCompletedCalls id format records synced at file) (none : HasNoStaleRecord id file) where
  broken_now : IsBrokenFrom id format at file.now
  broken_now =
      let changes = file.changes ++ file.older in
      broken_unwritten id format at file.now file.renamed_after changes (format_of-held id format records at file.now completed.held.holds) none.now (only_unwritten at file.now file.renamed_after changes completed.written.empty completed.past.only_writes)

  pub now_is_torn : IsTornAfter id format records file file.now
  now_is_torn = whole_is_torn id format records at file completed.held.holds broken_now

  -- they are what can be read now
  pub reading-now : scan_file id file.now ≡ Some (record { format = format; records = records; end = at })
  reading-now = reading-broken id format records at file.now completed.held.holds broken_now

-- .. and so is what holds those of the last sync
pub synced_is_torn : (id : FileId) (format : LogFileFormat) (records : List PlacedRecord) (synced at : ℕ) (file : File) → IsConsistent file → HoldsFreshRecords id format records synced at file → IsTornAfter id format records file file.synced
synced_is_torn id format records synced at file consistent completed =
    let begins = synced_left id format records synced at file file.now completed (now_may_be_left file consistent) in
    record {
      count = synced;
      end = completed.end;
      holds = holds_same id format (take synced records) completed.end file.synced file.now completed.begins begins.1 begins.0;
      within = completed.begins.within;
      same = begins.1;
      broken = completed.broken;
    }
