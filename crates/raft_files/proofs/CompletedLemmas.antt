-- Calls keep logs of which the damage of a crash can be told.
use Rattle.std.proofs.Common.{◌≡◌, ◌⊎◌, ℕ, ◌+◌, ◌≤◌, true, false, List, [], ◌∷◌, ◌++◌, length, take, map, Option, Some, None, Contains, refl, ap, sym, subst, ◌∙◌, inl, inr, arith}
use Rattle.std.specs.Prelude.{◌||◌, option_map}
use Rattle.std.proofs.lemmas.List.{take_all, take-append-le, map-append, length-take, length-take-le}
use Rattle.std.proofs.lemmas.List.Elements.{All-cons, All-tail, Contains-append_left, Contains-push_cases}
use Rattle.raft_records.specs.Item.{Batch}
use Rattle.raft_records.specs.Record.{record_of}
use Rattle.raft_base.specs.declared.pipe_log.FileId.{FileId}
use Rattle.raft_files.specs.declared.format.LogFileFormat.{LogFileFormat}
use Rattle.raft_files.specs.Header.{header_len}
use Rattle.raft_env.specs.Outcomes.{File, Change, is_within, is_touched, untouched_len, IsPartOf, changed_by, file_after_write, synced_of, synced_file, overlay, IsWriteIfFailed, resized_change, written_change, lengthened_change, cut_change}
use Rattle.raft_env.specs.Directory.{Directory, CrashImage, Path, IsRestarted, file_at}
use Rattle.raft_files.specs.Scan.{PlacedRecord, end_of_records, ScanResult, scan_file, records_of, readable_records, readable_batches}
use Rattle.raft_files.specs.Detectable.{signature_by, HasNoByteOfFailedCall, AreFresh, AreFromCompletedCalls, IsFreshAfter}
use Rattle.raft_files.specs.Records.{RecoversRecords, HoldsRecords, IsWrittenTo, HasLog}
use Rattle.raft_files.specs.Writer.{HasChanged, IsStep, IsLengthened, IsAppending, IsAppended, IsCutting, IsCut, IsSynced, IsClosed, bytes_of, bytes_at}
use Rattle.raft_files.specs.Completed.{AreCompletedRecords, AreCompletedRecordsAt, IsRenamedWithinAt, HasSimplePast, HasSimplePastAt, HoldsCompletedRecords, HasCompletedRecords, HasCompletedLog}
use Rattle.raft_env.proofs.OutcomesLemmas.{within_is}
use Rattle.raft_files.proofs.RecordsHeldLemmas.{format_of_read, end_of_held, readable-held}
use Rattle.raft_files.proofs.RecordsSyncLemmas.{written_to_read}
use Rattle.raft_files.proofs.RecordsWriteLemmas.{record_given}
use Rattle.raft_files.proofs.RecordsLemmas.{reads_first-within, untouched_len_more, synced_within}
use Rattle.raft_files.proofs.RecordsLengthLemmas.{holds_same}
use Rattle.raft_files.proofs.RecordsEmptyLemmas.{done_without_byte}
use Rattle.raft_files.proofs.RecordsWrittenLemmas.{lengthened, appended, appending, cut, closed, closed_back, synced}
use Rattle.raft_files.proofs.ScanExtentLemmas.{same_some}
use Rattle.raft_files.proofs.RecordsTruncationLemmas.{reading-cut}
use Rattle.raft_files.proofs.ScanLemmas.{end_of_read_within}
use Rattle.raft_files.proofs.RecordsLengthLemmas.{cut_after}
use Rattle.raft_files.proofs.WriterChangeLemmas.{stands_after, was_file}
use Rattle.raft_files.proofs.RecordsLogLemmas.{count_of}
use Rattle.raft_files.proofs.RecordsCrashLemmas.{read_to_end-cut}
use Rattle.raft_files.proofs.CompletedFreshLemmas.{never_fresh, never_within, renamed_changed, stays_fresh, written_fresh}
use Rattle.raft_files.proofs.CompletedZerosLemmas.{only_unwritten}

-- Records that no failed call brought.

-- what could be read before a change stays so
completed_after : (id : FileId) (by : Option ℕ) (c : Change) (changes : List Change) (records : List PlacedRecord) → ((r : PlacedRecord) → Contains records r → Contains (readable_records id c.before) r) → AreFromCompletedCalls id by changes records → AreFromCompletedCalls id by (c ∷ changes) records
completed_after id by c changes records readable completed r has = inr (readable r has, completed r has)

readable_held : (id : FileId) (format : LogFileFormat) (records : List PlacedRecord) (at : ℕ) (bytes : List ℕ) → HoldsRecords id format records at bytes → (r : PlacedRecord) → Contains records r → Contains (readable_records id bytes) r
readable_held id format records at bytes holds r has = subst (λ rs. Contains rs r) (sym (readable-held id format records at bytes holds)) (Contains-append_left records _ r has)

-- a record that a done change covers has no byte of a failed one
no_refused_byte_within : (by : Option ℕ) (c : Change) (changes : List Change) (r : PlacedRecord) → c.is_done ≡ true → c.from ≤ r.at → r.at + r.len ≤ c.from + c.size → HasNoByteOfFailedCall by (c ∷ changes) r
no_refused_byte_within by c changes r is above below [] d before e refused with_byte =
    let same : c ≡ d = cc in
    let false_is : false ≡ true = sym refused ∙ ap (λ (x : Change). x.is_done) (sym same) ∙ is in
    absurd cc
no_refused_byte_within by c changes r is above below (x ∷ later) d before e refused with_byte =
    let same : c ≡ x = cc in
    let here : is_within c.from c.size with_byte.0 ≡ true = within_is c.from c.size with_byte.0 (omega (arith, with_byte.1)) (omega (arith, with_byte.2)) in
    let touched : is_touched (x ∷ later) with_byte.0 ≡ true = ap (λ b. b || is_touched later with_byte.0) (ap (λ (y : Change). is_within y.from y.size with_byte.0) (sym same) ∙ here) in
    let false_is : true ≡ false = sym touched ∙ with_byte.4 in
    absurd cc

-- the file as it was, or with one change more
abbrev HasOneMore : File → File → Type 0
HasOneMore old new = (new ≡ old) ⊎ ((c : Change) × (c.before ≡ old.now) × (new ≡ changed_by c old))

-- .. that had no length below that which it left
abbrev pub HasGrown : File → File → Type 0
HasGrown old new = (new ≡ old) ⊎ ((c : Change) × (c.before ≡ old.now) × (c.shortest ≡ length c.after) × (new ≡ changed_by c old))

completed_readable : (id : FileId) (format : LogFileFormat) (records : List PlacedRecord) (old new : File) → ((r : PlacedRecord) → Contains records r → Contains (readable_records id old.now) r) → AreCompletedRecords id format records old → HasOneMore old new → AreCompletedRecords id format records new
completed_readable id format records old new readable completed (inl same) = subst (AreCompletedRecords id format records) (sym same) completed
completed_readable id format records old new readable completed (inr (c, before, is)) =
    let readable_before : (r : PlacedRecord) → Contains records r → Contains (readable_records id c.before) r = subst (λ bytes. (r : PlacedRecord) → Contains records r → Contains (readable_records id bytes) r) (sym before) readable in
    subst (AreCompletedRecords id format records) (sym is) (record {
      completed = completed_after id (signature_by id format) c (old.changes ++ old.older) records readable_before completed.completed;
      fresh = stays_fresh old.renamed_after c (old.changes ++ old.older) completed.renamed (signature_by id format) records completed.fresh;
      renamed = renamed_changed c old completed.renamed;
    })

completed_one_more : (id : FileId) (format : LogFileFormat) (records : List PlacedRecord) (at : ℕ) (old new : File) → HoldsRecords id format records at old.now → AreCompletedRecords id format records old → HasOneMore old new → AreCompletedRecords id format records new
completed_one_more id format records at old new holds = completed_readable id format records old new (readable_held id format records at old.now holds)

pub lengthened_once : (room new_room : ℕ) (old new : File) → IsLengthened room new_room old new → HasGrown old new
lengthened_once room new_room old new (inl same) = inl same
lengthened_once room new_room old new (inr (grows, inl same)) = inl same
lengthened_once room new_room old new (inr (grows, inr (after, true, outcome, is))) = inr (resized_change after old.now, refl, refl, is)
lengthened_once room new_room old new (inr (grows, inr (after, false, outcome, is))) = inr (lengthened_change new_room false after old.now, refl, refl, is)

pub written_once : (at : ℕ) (given : List ℕ) (old new : File) → IsStep (file_after_write at given) (λ now. overlay now at given) (IsPartOf at (length given)) old new → HasGrown old new
written_once at given old new (inl same) = inl same
written_once at given old new (inr (after, is_done, outcome, is)) = inr (written_change at given is_done after old.now, refl, refl, is)

cut_once : (size : ℕ) (old new : File) → IsCut size old new → HasOneMore old new
cut_once size old new (inl same) = inl same
cut_once size old new (inr is) = inr (resized_change (take size old.now) old.now, refl, is)

-- Log files.

-- a log file whose writer has written such records
pub record IsWrittenByCompletedCalls (id : FileId) (format : LogFileFormat) (records : List PlacedRecord) (synced at : ℕ) (file : File) : Type 0 where
  pub written : IsWrittenTo id format records synced at file
  pub held : HoldsCompletedRecords id format records synced at file
  pub past : HasSimplePast file

-- the synced records end before the place of the writer
end_before : (id : FileId) (format : LogFileFormat) (records : List PlacedRecord) (synced at : ℕ) (file : File) → (d : HoldsCompletedRecords id format records synced at file) → d.end ≤ at
end_before id format records synced at file d = omega (arith, synced_within id format records synced at file.now d.holds, end_of_held id format (take synced records) d.end file.synced d.begins)

-- .. and where no change touched the file
apart_of_kept : (id : FileId) (format : LogFileFormat) (records all : List PlacedRecord) (synced end : ℕ) (bytes : List ℕ) (file : File) → RecoversRecords id format all synced file → take synced all ≡ take synced records → HoldsRecords id format (take synced records) end bytes →
    end ≤ untouched_len file.synced file.changes
apart_of_kept id format records all synced end bytes file keeps same begins =
    let len = untouched_len file.synced file.changes in
    let within = reads_first-within id format (take synced all) (take len file.synced) keeps.covered in
    omega (arith, within, ap (λ rs. end_of_records (header_len format.version) rs) same, end_of_held id format (take synced records) end bytes begins, length-take len file.synced)

-- a change that leaves the records
held_more : (id : FileId) (format : LogFileFormat) (records all : List PlacedRecord) (synced at : ℕ) (old new : File) → HoldsCompletedRecords id format records synced at old → HasGrown old new → HoldsRecords id format records at new.now →
    RecoversRecords id format all synced new → take synced all ≡ take synced records → HoldsCompletedRecords id format records synced at new
held_more id format records all synced at old new d (inl is) holds keeps same = subst (HoldsCompletedRecords id format records synced at) (sym is) d
held_more id format records all synced at old new d (inr (c, before, len, is)) holds keeps same =
    let more = changed_by c old in
    let held = subst (λ (f : File). HoldsRecords id format records at f.now) is holds in
    subst (HoldsCompletedRecords id format records synced at) (sym is) (record {
      holds = held;
      completed = completed_one_more id format records at old more d.holds d.completed (inr (c, before, refl));
      end = d.end;
      begins = d.begins;
      unwritten = d.unwritten;
      apart = apart_of_kept id format records all synced d.end old.synced more (subst (RecoversRecords id format all synced) is keeps) same d.begins;
      long = omega (arith, d.long, end_before id format records synced at old d, held.within, len);
    })

held_lengthened : (id : FileId) (format : LogFileFormat) (records : List PlacedRecord) (synced at room new_room : ℕ) (old new : File) → IsWrittenTo id format records synced at old → HoldsCompletedRecords id format records synced at old → IsLengthened room new_room old new → HoldsCompletedRecords id format records synced at new
held_lengthened id format records synced at room new_room old new w d longer =
    let mid = lengthened id format records synced at room new_room old new w longer in
    held_more id format records records synced at old new d (lengthened_once room new_room old new longer) mid.holds mid.keeps refl

-- a moment of an append
held_appending : (id : FileId) (format : LogFileFormat) (records : List PlacedRecord) (synced at room new_room : ℕ) (old new : File) (given : List ℕ) (batch : Batch) → IsWrittenTo id format records synced at old → HoldsCompletedRecords id format records synced at old →
    record_of (signature_by id format) given ≡ Some (batch, length given) → IsAppending room new_room at given old new → HoldsCompletedRecords id format records synced at new
held_appending id format records synced at room new_room old new given batch w d is (mid, longer, writes) =
    let one = record_given at given batch ∷ [] in
    let torn = appending id format records synced at room new_room old new given batch w is (mid, longer, writes) in
    held_more id format records (records ++ one) synced at mid new (held_lengthened id format records synced at room new_room old mid w d longer) (written_once at given mid new writes) torn.holds torn.keeps
    (take-append-le synced records one w.keeps.few)

-- a moment of a cut
held_cutting : (id : FileId) (format : LogFileFormat) (records : List PlacedRecord) (synced at : ℕ) (old new : File) → HoldsCompletedRecords id format records synced at old → IsCutting at old new → HoldsCompletedRecords id format records synced at new
held_cutting id format records synced at old new d (inl same) = subst (HoldsCompletedRecords id format records synced at) (sym same) d
held_cutting id format records synced at old new d (inr (after, is_done, outcome, is)) =
    let c = cut_change at is_done after old.now in
    let more = changed_by c old in
    let behind = cut_after at is_done after old.now old.renamed_after (old.changes ++ old.older) d.holds.within outcome in
    let before = end_before id format records synced at old d in
    subst (HoldsCompletedRecords id format records synced at) (sym is) (record {
      holds = holds_same id format records at old.now c.after d.holds behind.same behind.long;
      completed = completed_one_more id format records at old more d.holds d.completed (inr (c, behind.was, refl));
      end = d.end;
      begins = d.begins;
      unwritten = d.unwritten;
      apart = untouched_len_more old.synced c old.changes d.end d.apart (omega (arith, before, behind.from));
      long = omega (arith, d.long, before, behind.shortest);
    })

-- an append
completed_to_appended : (id : FileId) (format : LogFileFormat) (records : List PlacedRecord) (synced at room new_room : ℕ) (old new : File) (given : List ℕ) (batch : Batch) → IsWrittenByCompletedCalls id format records synced at old →
    record_of (signature_by id format) given ≡ Some (batch, length given) → IsAppended room new_room at given old new → HasSimplePast new →
    IsWrittenByCompletedCalls id format (records ++ record_given at given batch ∷ []) synced (at + length given) new
completed_to_appended id format records synced at room new_room old new given batch d is (mid, longer, wrote) past = record {
  written = written_all;
  held = subst (HoldsCompletedRecords id format all synced end) (sym wrote) (held (subst (IsWrittenTo id format all synced end) wrote written_all));
  past = past;
}
  where
    one : PlacedRecord
    one = record_given at given batch

    all : List PlacedRecord
    all = records ++ one ∷ []

    end : ℕ
    end = at + length given

    c : Change
    c = written_change at given true (overlay mid.now at given) mid.now

    earlier_changes : List Change
    earlier_changes = mid.changes ++ mid.older

    written_all : IsWrittenTo id format all synced end new
    written_all = appended id format records synced at room new_room old new given batch d.written is (mid, longer, wrote)

    before : HoldsCompletedRecords id format records synced at mid
    before = held_lengthened id format records synced at room new_room old mid d.written d.held longer

    front : take synced all ≡ take synced records
    front = take-append-le synced records (one ∷ []) d.written.keeps.few

    no_refused : AreFromCompletedCalls id (signature_by id format) (c ∷ earlier_changes) all
    no_refused r has = elim (Contains-push_cases records one r has) [
      | inl earlier ↦ completed_after id (signature_by id format) c earlier_changes records (readable_held id format records at mid.now before.holds) before.completed.completed r earlier
      | inr same ↦ done_without_byte id (signature_by id format) (c ∷ earlier_changes) r
          (subst (HasNoByteOfFailedCall (signature_by id format) (c ∷ earlier_changes)) same (no_refused_byte_within (signature_by id format) c earlier_changes one refl (omega arith) (omega arith)))
    ]

    fresh : AreFresh (signature_by id format) mid.renamed_after (c ∷ earlier_changes) all
    fresh r has = elim (Contains-push_cases records one r has) [
      | inl earlier ↦ stays_fresh mid.renamed_after c earlier_changes before.completed.renamed (signature_by id format) records before.completed.fresh r earlier
      | inr same ↦ subst (IsFreshAfter (signature_by id format) mid.renamed_after (c ∷ earlier_changes)) same (written_fresh mid.renamed_after c earlier_changes before.completed.renamed (signature_by id format) one (refl, is))
    ]

    held : IsWrittenTo id format all synced end (file_after_write at given true (overlay mid.now at given) mid) → HoldsCompletedRecords id format all synced end (file_after_write at given true (overlay mid.now at given) mid)
    held w = record {
      holds = w.holds;
      completed = record { completed = no_refused; fresh = fresh; renamed = renamed_changed c mid before.completed.renamed };
      end = before.end;
      begins = subst (λ rs. HoldsRecords id format rs before.end mid.synced) (sym front) before.begins;
      unwritten = before.unwritten;
      apart = apart_of_kept id format records all synced before.end mid.synced (file_after_write at given true (overlay mid.now at given) mid) w.keeps front before.begins;
      long = omega (arith, before.long, end_before id format records synced at mid before, w.holds.within);
    }

-- a sync
completed_to_synced : (id : FileId) (format : LogFileFormat) (records : List PlacedRecord) (at : ℕ) (old new : File) → IsWrittenTo id format records (length records) at new → AreCompletedRecords id format records old → HasSimplePast old → IsSynced old new →
    IsWrittenByCompletedCalls id format records (length records) at new
completed_to_synced id format records at old new w completed past is = subst (IsWrittenByCompletedCalls id format records (length records) at) (sym is) (record {
  written = written_to;
  held = record {
    holds = written_to.holds;
    completed = record { completed = completed.completed; fresh = completed.fresh; renamed = completed.renamed };
    end = at;
    begins = subst (λ rs. HoldsRecords id format rs at old.now) (sym (take_all (length records) records (omega arith))) written_to.holds;
    unwritten = only_unwritten at old.now old.renamed_after (old.changes ++ old.older) written_to.empty past.only_writes;
    apart = written_to.holds.within;
    long = written_to.holds.within;
  };
  past = record { only_writes = past.only_writes };
})
  where
    written_to : IsWrittenTo id format records (length records) at (synced_of old)
    written_to = subst (IsWrittenTo id format records (length records) at) is w

-- a cut that is synced
past_after_cut : (size : ℕ) (old new : File) → IsCut size old new → HasSimplePast old → HasSimplePast new
past_after_cut size old new (inl same) past = subst HasSimplePast (sym same) past
past_after_cut size old new (inr is) past =
    let c = resized_change (take size old.now) old.now in
    let completed : IsWriteIfFailed c = λ refused. absurd cc in
    subst HasSimplePast (sym is) (record { only_writes = All-cons IsWriteIfFailed c (old.changes ++ old.older) completed past.only_writes })

completed_to_closed : (id : FileId) (format : LogFileFormat) (records : List PlacedRecord) (at : ℕ) (old new : File) → HoldsRecords id format records at old.now → AreCompletedRecords id format records old → HasSimplePast old → IsClosed at old new →
    IsWrittenTo id format records (length records) at new → IsWrittenByCompletedCalls id format records (length records) at new
completed_to_closed id format records at old new holds completed past (mid, cuts, now, is) w =
    completed_to_synced id format records at mid new w (completed_one_more id format records at old mid holds completed (cut_once at old mid cuts)) (past_after_cut at old mid cuts past) is

-- only writes had failed before it, if only writes were then
past_before_cut : (size : ℕ) (old new : File) → IsCut size old new → HasSimplePast new → HasSimplePast old
past_before_cut size old new (inl same) past = subst HasSimplePast same past
past_before_cut size old new (inr is) past =
    let c = resized_change (take size old.now) old.now in
    let after = subst HasSimplePast is past in
    record { only_writes = All-tail IsWriteIfFailed c (old.changes ++ old.older) after.only_writes }

pub past_before_closed : (size : ℕ) (old new : File) → IsClosed size old new → HasSimplePast new → HasSimplePast old
past_before_closed size old new (mid, cuts, now, is) past =
    let after = subst HasSimplePast is past in
    past_before_cut size old mid cuts (record { only_writes = after.only_writes })

-- a failed append that is taken back
completed_to_undone : (id : FileId) (format : LogFileFormat) (records : List PlacedRecord) (synced at room new_room : ℕ) (old mid new : File) (given : List ℕ) (batch : Batch) → IsWrittenByCompletedCalls id format records synced at old →
    record_of (signature_by id format) given ≡ Some (batch, length given) → IsAppending room new_room at given old mid → HasSimplePast mid → IsClosed at mid new → IsWrittenByCompletedCalls id format records (length records) at new
completed_to_undone id format records synced at room new_room old mid new given batch d is first past closes =
    let torn = appending id format records synced at room new_room old mid given batch d.written is first in
    let held = held_appending id format records synced at room new_room old mid given batch d.written d.held is first in
    completed_to_closed id format records at mid new held.holds held.completed past closes (closed_back id format records (record_given at given batch ∷ []) synced at mid new torn closes)

-- what was found and cut where its reading ends
completed_to_found : (id : FileId) (r : ScanResult) (bytes : List ℕ) (old new : File) → scan_file id bytes ≡ Some r → old.now ≡ take r.end bytes → AreCompletedRecords id r.format r.records old → HasSimplePast old → IsSynced old new →
    IsWrittenByCompletedCalls id r.format r.records (length r.records) r.end new
completed_to_found id r bytes old new e now completed past is =
    let cut = take r.end bytes in
    let read = reading-cut id bytes r e in
    let same : readable_records id cut ≡ r.records = ap records_of read in
    let len : length cut ≡ r.end = length-take-le r.end bytes (end_of_read_within id bytes r e) in
    let whole : IsWrittenTo id r.format (readable_records id cut) (length (readable_records id cut)) (length cut) (synced_of old) = written_to_read id old cut r.format now (format_of_read id cut r read) (read_to_end-cut id bytes r e) in
    let written_to : IsWrittenTo id r.format r.records (length r.records) r.end new =
    subst (IsWrittenTo id r.format r.records (length r.records) r.end) (sym is)
    (subst (λ at. IsWrittenTo id r.format r.records (length r.records) at (synced_of old)) len (subst (λ rs. IsWrittenTo id r.format rs (length rs) (length cut) (synced_of old)) same whole)) in
    completed_to_synced id r.format r.records r.end old new written_to completed past is

-- Logs at a path.

pub log_of_completed : (path : Path) (id : FileId) (format : LogFileFormat) (batches : List Batch) (synced at : ℕ) (n : Directory) → HasCompletedLog path id format batches synced at n → HasLog path id format batches synced at n
log_of_completed path id format batches synced at n log = record { file = log.held.file; stands = log.held.stands; records = log.held.records; holds = log.held.holds; written = log.written }

-- such a file at the path
pub completed_log_at : (path : Path) (id : FileId) (format : LogFileFormat) (records : List PlacedRecord) (batches : List Batch) (synced at : ℕ) (file : File) (n : Directory) → file_at n path ≡ Some file → map (λ (p : PlacedRecord). p.batch) records ≡ batches → IsWrittenByCompletedCalls id format records synced at file →
    HasCompletedLog path id format batches synced at n
completed_log_at path id format records batches synced at file n stands holds d = record {
  held = record { file = file; stands = stands; records = records; holds = holds; held = d.held };
  written = d.written;
  past = d.past;
}

no_records : (records : List PlacedRecord) → map (λ (p : PlacedRecord). p.batch) records ≡ [] → records ≡ []
no_records [] none = refl
no_records (r ∷ records) none = absurd (omega (arith, ap length none))

module _ (path : Path) (id : FileId) where
  -- a log without batches that is synced, also where its file was renamed
  pub completed_log_begun : (format : LogFileFormat) (at : ℕ) (old new : Directory) → HasLog path id format [] 0 at new → IsRenamedWithinAt path old → HasSimplePastAt path old → HasChanged path IsSynced old new → HasCompletedLog path id format [] 0 at new
  completed_log_begun format at old new log within past change =
      let same : log.file ≡ change.after = same_some (sym log.stands ∙ stands_after path old new IsSynced change) in
      let empty = no_records log.records log.holds in
      let written_to : IsWrittenTo id format [] 0 at change.after = subst (λ rs. IsWrittenTo id format rs 0 at change.after) empty (subst (IsWrittenTo id format log.records 0 at) same log.written) in
      completed_log_at path id format [] [] 0 at change.after new (stands_after path old new IsSynced change) refl
      (completed_to_synced id format [] at change.before change.after written_to
      (record { completed = λ r none. absurd (omega (arith, none.1)); fresh = λ r none. absurd (omega (arith, none.1)); renamed = within change.before change.was }) (past change.before change.was) change.how)

  pub completed_log_found : (r : ScanResult) (old cut new : Directory) → let found = readable_batches id (bytes_at path old) in scan_file id (bytes_at path old) ≡ Some r → bytes_at path cut ≡ take r.end (bytes_at path old) →
      AreCompletedRecordsAt path id r.format r.records cut → HasSimplePastAt path cut → HasChanged path IsSynced cut new → HasCompletedLog path id r.format found (length found) r.end new
  completed_log_found r old cut new e is completed past change =
      let bytes = bytes_at path old in
      let found = readable_batches id bytes in
      let now : change.before.now ≡ take r.end bytes = sym (ap (λ o. bytes_of o) change.was) ∙ is in
      let holds : map (λ (p : PlacedRecord). p.batch) r.records ≡ found = ap (λ q. map (λ (p : PlacedRecord). p.batch) (records_of q)) (sym e) in
      let written_to = completed_to_found id r bytes change.before change.after e now (completed change.before change.was) (past change.before change.was) change.how in
      completed_log_at path id r.format r.records found (length found) r.end change.after new (stands_after path cut new IsSynced change) holds
      (subst (λ n. IsWrittenByCompletedCalls id r.format r.records n r.end change.after) (count_of r.records found holds) written_to)

  -- what a crash left no failed call brought
  pub completed_restarted : (format : LogFileFormat) (records : List PlacedRecord) (n m : Directory) (d : CrashImage) → IsRestarted n d m → AreCompletedRecordsAt path id format records m × HasSimplePastAt path m
  completed_restarted format records n m d restarted = (
    λ file stands. subst (AreCompletedRecords id format records) (is_settled file stands) (record {
      completed = λ r has. tt;
      fresh = never_fresh (signature_by id format) None [] records refl;
      renamed = never_within None [] refl;
    }),
    λ file stands. subst HasSimplePast (is_settled file stands) (record { only_writes = λ k other within. absurd (omega (arith, within)) }),
  )
    where
      is_settled : (file : File) → file_at m path ≡ Some file → synced_file (d path) ≡ file
      is_settled file stands = by_file (file_at n path) (sym (restarted.each path) ∙ stands)
        where
          by_file : (found : Option File) → option_map (λ _. synced_file (d path)) found ≡ Some file → synced_file (d path) ≡ file
          by_file None e = cc
          by_file (Some f) e = same_some e

  -- .. and a cut brings none
  pub completed_cut : (r : ScanResult) (size : ℕ) (old cut : Directory) → scan_file id (bytes_at path old) ≡ Some r → AreCompletedRecordsAt path id r.format r.records old → HasSimplePastAt path old → HasChanged path (IsCut size) old cut →
      AreCompletedRecordsAt path id r.format r.records cut × HasSimplePastAt path cut
  completed_cut r size old cut e completed past change = (
    λ file stands. subst (AreCompletedRecords id r.format r.records) (after_is file stands) (completed_readable id r.format r.records change.before change.after readable (completed change.before change.was) (cut_once size change.before change.after change.how)),
    λ file stands. subst HasSimplePast (after_is file stands) (past_after_cut size change.before change.after change.how (past change.before change.was)),
  )
    where
      after_is : (file : File) → file_at cut path ≡ Some file → change.after ≡ file
      after_is file stands = same_some (sym (stands_after path old cut (IsCut size) change) ∙ stands)

      readable : (q : PlacedRecord) → Contains r.records q → Contains (readable_records id change.before.now) q
      readable q has = subst (λ rs. Contains rs q) (sym (ap records_of (ap (λ o. scan_file id (bytes_of o)) (sym change.was) ∙ e))) has

pub completed_records_cutting : (path : Path) (id : FileId) (format : LogFileFormat) (batches : List Batch) (count at : ℕ) (old new : Directory) → HasCompletedRecords path id format batches count at old → HasChanged path (IsCutting at) old new → HasCompletedRecords path id format batches count at new
completed_records_cutting path id format batches count at old new held change = record {
  file = change.after;
  stands = stands_after path old new (IsCutting at) change;
  records = held.records;
  holds = held.holds;
  held = held_cutting id format held.records count at held.file change.after held.held (was_file path old new (IsCutting at) change held.file held.stands);
}

module _ (path : Path) (id : FileId) (format : LogFileFormat) (batches : List Batch) (count at : ℕ) (old : Directory) (log : HasCompletedLog path id format batches count at old) where
  abbrev file : File
  file = log.held.file

  abbrev records : List PlacedRecord
  records = log.held.records

  completed_file : IsWrittenByCompletedCalls id format records count at file
  completed_file = record { written = log.written; held = log.held.held; past = log.past }

  was : (n : Directory) (R : File → File → Type 0) (change : HasChanged path R old n) → R file change.after
  was n R change = was_file path old n R change file log.held.stands

  all_synced : (mid new : Directory) (R : File → File → Type 0) (change : HasChanged path R mid new) → IsWrittenByCompletedCalls id format records (length records) at change.after → HasCompletedLog path id format batches (length batches) at new
  all_synced mid new R change d =
      completed_log_at path id format records batches (length batches) at change.after new (stands_after path mid new R change) log.held.holds
      (subst (λ n. IsWrittenByCompletedCalls id format records n at change.after) (count_of records batches log.held.holds) d)

  pub completed_log_appended : (new : Directory) (room new_room : ℕ) (given : List ℕ) (batch : Batch) → record_of (signature_by id format) given ≡ Some (batch, length given) → HasChanged path (IsAppended room new_room at given) old new → HasSimplePastAt path new →
      HasCompletedLog path id format (batches ++ batch ∷ []) count (at + length given) new
  completed_log_appended new room new_room given batch is change past =
      let R = IsAppended room new_room at given in
      let one = record_given at given batch ∷ [] in
      let stands = stands_after path old new R change in
      let holds = map-append (λ (p : PlacedRecord). p.batch) records one ∙ ap (λ bs. bs ++ batch ∷ []) log.held.holds in
      completed_log_at path id format (records ++ one) (batches ++ batch ∷ []) count (at + length given) change.after new stands holds
      (completed_to_appended id format records count at room new_room file change.after given batch completed_file is (was new R change) (past change.after stands))

  pub completed_log_appending : (new : Directory) (room new_room : ℕ) (given : List ℕ) (batch : Batch) → record_of (signature_by id format) given ≡ Some (batch, length given) → HasChanged path (IsAppending room new_room at given) old new → HasCompletedRecords path id format batches count at new
  completed_log_appending new room new_room given batch is change =
      let R = IsAppending room new_room at given in
      record {
        file = change.after;
        stands = stands_after path old new R change;
        records = records;
        holds = log.held.holds;
        held = held_appending id format records count at room new_room file change.after given batch log.written log.held.held is (was new R change);
      }

  pub completed_log_undone : (mid new : Directory) (room new_room : ℕ) (given : List ℕ) (batch : Batch) → record_of (signature_by id format) given ≡ Some (batch, length given) → HasChanged path (IsAppending room new_room at given) old mid →
      HasChanged path (IsClosed at) mid new → HasSimplePastAt path new → HasCompletedLog path id format batches (length batches) at new
  completed_log_undone mid new room new_room given batch is first change past =
      let R = IsAppending room new_room at given in
      let closes = was_file path mid new (IsClosed at) change first.after (stands_after path old mid R first) in
      let before = past_before_closed at first.after change.after closes (past change.after (stands_after path mid new (IsClosed at) change)) in
      all_synced mid new (IsClosed at) change
      (completed_to_undone id format records count at room new_room file first.after change.after given batch completed_file is (was mid R first) before closes)

  pub completed_log_synced : (new : Directory) → HasChanged path IsSynced old new → HasCompletedLog path id format batches (length batches) at new
  completed_log_synced new change =
      let how = was new IsSynced change in
      all_synced old new IsSynced change (completed_to_synced id format records at file change.after (synced id format records count at file change.after log.written how) log.held.held.completed log.past how)

  pub completed_log_closed : (new : Directory) → HasChanged path (IsClosed at) old new → HasCompletedLog path id format batches (length batches) at new
  completed_log_closed new change =
      let how = was new (IsClosed at) change in
      all_synced old new (IsClosed at) change (completed_to_closed id format records at file change.after log.held.held.holds log.held.held.completed log.past how (closed id format records count at file change.after log.written how))
