-- What a truncation to the end of what is read leaves of a file.
use Rattle.std.proofs.Common.{◌≡◌, ℕ, ◌+◌, ◌≤◌, Bool, false, List, [], ◌∷◌, ◌++◌, length, take, Option, Some, None, Contains, refl, ap, sym, subst, ◌∙◌, inl, inr, arith}
use Rattle.std.specs.Prelude.{◌||◌}
use Rattle.std.proofs.lemmas.List.{append-nil, take-take, length-take-le}
use Rattle.std.proofs.lemmas.List.Elements.{Contains-append_left}
use Rattle.raft_base.specs.declared.pipe_log.FileId.{FileId}
use Rattle.raft_files.specs.declared.format.LogFileFormat.{LogFileFormat}
use Rattle.raft_files.specs.Header.{header_len}
use Rattle.raft_env.specs.Outcomes.{File, Change, is_touched, changed_by, Outcome, IsCutOf, cut_to, cut_change}
use Rattle.raft_files.specs.Scan.{PlacedRecord, end_of_records, ScanResult, records_after, scan_file, records_of, end_of, end_of_scan}
use Rattle.raft_files.specs.Detectable.{IsPrefixOf, signature_by, HasNoByteOfFailedCall, IsFromCompletedCall}
use Rattle.raft_files.specs.Records.{AreReadAt, ReadsFirst, RecoversRecords, IsEmptyFrom, HasNothingFrom, HoldsRecords, RecoversNoRecord}
use Rattle.raft_files.proofs.DetectableLemmas.{prefix_itself}
use Rattle.raft_files.proofs.ScanLemmas.{records_stay, reading_is, reading-kept, end_of_read_within, read_in}
use Rattle.raft_files.proofs.RecordsNoneLemmas.{none_more, read_of_bytes}
use Rattle.raft_env.proofs.OutcomesLemmas.{not_within}
use Rattle.raft_files.proofs.DetectableStaleLemmas.{GivesNoneFrom, ungiven, fresh_before}
use Rattle.raft_files.proofs.ScanPlacedLemmas.{end_of_front, placed_stands, placed_by_past}
use Rattle.raft_files.proofs.RecordsEmptyLemmas.{done_without_byte, has_nothing_after}
use Rattle.raft_files.proofs.RecordsLemmas.{reads_first-kept, keeps_more}
use Rattle.raft_files.proofs.RecordsHeldLemmas.{left_of_held, format_of-held}
use Rattle.raft_files.proofs.RecordsLengthLemmas.{holds_same, IsBehind, cut_after}

-- The records up to the end of the reading.

-- bytes cut where the reading ends are read to their end
pub reading-cut : (id : FileId) (bytes : List ℕ) (r : ScanResult) → scan_file id bytes ≡ Some r → scan_file id (take r.end bytes) ≡ Some r
reading-cut id bytes r e =
    let is = reading_is id bytes r e in
    let format = r.format in
    let from = header_len format.version in
    let cut = take r.end bytes in
    let ends : end_of_records from r.records ≡ r.end = sym is.end in
    let len : length cut ≡ r.end = length-take-le r.end bytes (end_of_read_within id bytes r e) in
    let none : records_after id format cut (end_of_records from r.records) ≡ [] =
    placed_by_past (records_stay id format cut) (length cut) (end_of_records from r.records) (omega (arith, len, ends)) in
    reading-kept id r.end bytes cut r r.records [] (sym (take-take r.end r.end bytes (omega arith))) e (sym (append-nil r.records)) (omega (arith, ends))
    ∙ ap (λ rs. Some (record { format = format; records = r.records ++ rs; end = end_of_records (end_of_records from r.records) rs })) none
    ∙ ap (λ rs. Some (record { format = format; records = rs; end = end_of_records from r.records })) (append-nil r.records)
    ∙ ap (λ n. Some (record { format = format; records = r.records; end = n })) ends

-- they hold all records
pub holds_read : (id : FileId) (bytes : List ℕ) (r : ScanResult) → scan_file id bytes ≡ Some r → HoldsRecords id r.format r.records r.end bytes
holds_read id bytes r e = record { within = end_of_read_within id bytes r e; read = reading-cut id bytes r e }

-- each record that is read ends before the end of the reading
read_ends_before : (id : FileId) (bytes : List ℕ) (read : ScanResult) → scan_file id bytes ≡ Some read → (r : PlacedRecord) → Contains read.records r → r.at + r.len ≤ read.end
read_ends_before id bytes read e r has =
    let is = reading_is id bytes read e in
    omega (arith, is.end, (placed_stands (records_stay id read.format bytes) (length bytes) (header_len read.format.version) read.records (sym is.records) r has).before)

-- A change after the records that are read.

-- a change after a record takes no part in whether the record has bytes of failed calls
has_no_refused_byte_before : (by : Option ℕ) (c : Change) (changes : List Change) (r : PlacedRecord) → r.at + r.len ≤ c.from → HasNoByteOfFailedCall by (c ∷ changes) r → HasNoByteOfFailedCall by changes r
has_no_refused_byte_before by c changes r before no_byte later d earlier e refused with_byte =
    let i = with_byte.0 in
    let outside : is_touched (c ∷ later) i ≡ false = ap (λ b. b || is_touched later i) (not_within c.from c.size i (inl (omega (arith, with_byte.2, before)))) ∙ with_byte.4 in
    no_byte (c ∷ later) d earlier (ap (λ cs. c ∷ cs) e) refused (i, with_byte.1, with_byte.2, with_byte.3, outside)

done_before : (id : FileId) (by : Option ℕ) (c : Change) (changes : List Change) (r : PlacedRecord) → r.at + r.len ≤ c.from → IsFromCompletedCall id by (c ∷ changes) r → IsFromCompletedCall id by changes r
done_before id by c changes r before (inl no_byte) = done_without_byte id by changes r (has_no_refused_byte_before by c changes r before no_byte)
done_before id by c changes r before (inr earlier) = earlier.1

-- nothing is read after the end of the reading
has_nothing_after_end : (id : FileId) (bytes : List ℕ) (r : ScanResult) (renamed : Option ℕ) (changes : List Change) → scan_file id bytes ≡ Some r → HasNothingFrom id r.end bytes renamed changes
has_nothing_after_end id bytes read renamed changes e by r has behind completed fresh =
    let is = read_in id bytes r has in
    absurd (omega (arith, is.long, read_ends_before id bytes read e r (subst (λ q. Contains (records_of q) r) e has)))

-- what a crash leaves of it was left before
left_before : (id : FileId) (by : Option ℕ) (old : List ℕ) (c : Change) (renamed : Option ℕ) (changes : List Change) (r : ScanResult) → scan_file id old ≡ Some r → IsBehind r.end old c renamed changes →
    (left : List PlacedRecord) → AreReadAt id by c.after renamed (c ∷ changes) left → AreReadAt id by old renamed changes left
left_before id by old c renamed changes r e behind left read =
    let holds = holds_same id r.format r.records r.end old c.after (holds_read id old r e) behind.same behind.long in
    let earlier : HasNothingFrom id r.end c.before renamed changes = subst (λ b. HasNothingFrom id r.end b renamed changes) (sym behind.was) (has_nothing_after_end id old r renamed changes e) in
    let nothing = has_nothing_after id r.end r.end c renamed changes earlier (omega arith) (ungiven r.end c behind.given) behind.empty in
    let first : IsPrefixOf left r.records = left_of_held id r.format by r.records r.end c.after renamed (c ∷ changes) holds nothing left read in
    let before : (q : PlacedRecord) → Contains left q → q.at + q.len ≤ c.from = λ q has.
    omega (arith, behind.from, read_ends_before id old r e q (subst (λ rs. Contains rs q) (sym first.1) (Contains-append_left left first.0 q has))) in
    record {
      prefix = subst (λ rs. IsPrefixOf left rs) (sym (ap (λ q. records_of q) e)) first;
      completed = λ q has. done_before id by c changes q (before q has) (read.completed q has);
      fresh = λ q has. fresh_before by renamed c changes q.at q (ungiven q.at c behind.given) (omega arith) (read.fresh q has);
    }

-- .. so the records are kept
keeps_after : (id : FileId) (format : LogFileFormat) (records : List PlacedRecord) (synced : ℕ) (file : File) (c : Change) (keeps : RecoversRecords id format records synced file) (reads : ReadsFirst id format (take synced records) file.now) →
    IsBehind reads.end file.now c file.renamed_after (file.changes ++ file.older) → RecoversRecords id format records synced (changed_by c file) × ReadsFirst id format (take synced records) c.after
keeps_after id format records synced file c keeps reads behind =
    let r : ScanResult = record { format = format; records = reads.all; end = reads.end } in
    let holds = holds_same id format reads.all reads.end file.now c.after (holds_read id file.now r reads.read) behind.same behind.long in
    let is = reading_is id file.now r reads.read in
    let from = header_len format.version in
    let front = take synced records in
    let before : end_of_records from front ≤ reads.end = omega (
      arith,
      end_of_front (records_stay id format file.now) (length file.now) from front reads.first.0 (sym is.records ∙ reads.first.1),
      ap (λ rs. end_of_records from rs) reads.first.1,
      is.end,
    ) in
    let moment : (left : List PlacedRecord) → AreReadAt id (signature_by id format) c.after file.renamed_after (c ∷ file.changes ++ file.older) left → IsPrefixOf left records = λ left read.
    let old = left_before id (signature_by id format) file.now c file.renamed_after (file.changes ++ file.older) r reads.read behind left read in
    keeps.moments [] file.changes refl left (read_of_bytes keeps.latest old) in (
      keeps_more id format records records synced file c keeps (prefix_itself records) (format_of-held id format reads.all reads.end c.after holds) moment (omega (arith, before, behind.from)) (omega (arith, before, behind.shortest)),
      reads_first-kept id format front reads.end file.now c.after reads behind.same before,
    )

-- Files of which a crash leaves no record.

none_after : (id : FileId) (file : File) (c : Change) (r : ScanResult) → RecoversNoRecord id file → scan_file id file.now ≡ Some r → IsBehind r.end file.now c file.renamed_after (file.changes ++ file.older) → RecoversNoRecord id (changed_by c file)
none_after id file c r none e behind = none_more id file c none (λ format left read.
    let old = left_before id (signature_by id format) file.now c file.renamed_after (file.changes ++ file.older) r e behind left read in
    none.now format left old)

-- nothing is read and done where nothing was read before
nothing_read : (id : FileId) (by : Option ℕ) (c : Change) (renamed : Option ℕ) (changes : List Change) → scan_file id c.before ≡ None → GivesNoneFrom 0 c → IsEmptyFrom 0 c.after renamed (c ∷ changes) → (left : List PlacedRecord) → AreReadAt id by c.after renamed (c ∷ changes) left → left ≡ []
nothing_read id by c renamed changes unread none empty [] read = refl
nothing_read id by c renamed changes unread none empty (r ∷ left) read =
    let earlier : HasNothingFrom id 0 c.before renamed changes = λ other q has behind is fresh. absurd (omega (arith, (subst (λ read. Contains (records_of read) q) unread has).1)) in
    let nothing = has_nothing_after id 0 0 c renamed changes earlier (omega arith) none empty in
    let first : Contains (r ∷ left) r = (0, omega arith, refl) in
    absurd (nothing by r (subst (λ all. Contains all r) (sym read.prefix.1) (0, omega arith, refl)) (omega arith) (read.completed r first) (read.fresh r first))

-- Truncations.

-- a truncation to the end of the reading keeps the records
pub keeps_cut : (id : FileId) (format : LogFileFormat) (records : List PlacedRecord) (synced size : ℕ) (is_done : Bool) (after : List ℕ) (file : File) → RecoversRecords id format records synced file → ReadsFirst id format (take synced records) file.now →
    size ≡ end_of_scan id file.now → Outcome is_done (take size file.now) (IsCutOf size file.now) after →
    let cut = cut_to size is_done after file in RecoversRecords id format records synced cut × ReadsFirst id format (take synced records) cut.now
keeps_cut id format records synced size is_done after file keeps reads cuts outcome =
    let c = cut_change size is_done after file.now in
    let size_is : size ≡ reads.end = cuts ∙ ap end_of reads.read in
    let within = end_of_read_within id file.now _ reads.read in
    let behind = cut_after size is_done after file.now file.renamed_after (file.changes ++ file.older) (omega (arith, size_is, within)) outcome in
    keeps_after id format records synced file c keeps reads (subst (λ n. IsBehind n file.now c file.renamed_after (file.changes ++ file.older)) size_is behind)

-- .. and adds none
pub none_cut : (id : FileId) (size : ℕ) (is_done : Bool) (after : List ℕ) (file : File) → RecoversNoRecord id file → size ≡ end_of_scan id file.now → Outcome is_done (take size file.now) (IsCutOf size file.now) after →
    RecoversNoRecord id (cut_to size is_done after file)
none_cut id size is_done after file none cuts outcome = by_reading (scan_file id file.now) refl
  where
    c : Change
    c = cut_change size is_done after file.now

    past : List Change
    past = file.changes ++ file.older

    by_reading : (read : Option ScanResult) → scan_file id file.now ≡ read → RecoversNoRecord id (changed_by c file)
    by_reading None e =
        let size_is : size ≡ 0 = cuts ∙ ap end_of e in
        let behind = cut_after size is_done after file.now file.renamed_after past (omega (arith, size_is)) outcome in
        let unread : scan_file id c.before ≡ None = ap (scan_file id) behind.was ∙ e in
        none_more id file c none (λ format left. nothing_read id (signature_by id format) c file.renamed_after past unread (ungiven 0 c behind.given) (subst (λ n. IsEmptyFrom n c.after file.renamed_after (c ∷ past)) size_is behind.empty) left)
    by_reading (Some r) e =
        let size_is : size ≡ r.end = cuts ∙ ap end_of e in
        let behind = cut_after size is_done after file.now file.renamed_after past (omega (arith, size_is, end_of_read_within id file.now r e)) outcome in
        none_after id file c r none e (subst (λ n. IsBehind n file.now c file.renamed_after past) size_is behind)
