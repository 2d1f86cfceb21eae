-- What keeps the records of a log file through a crash.
use Rattle.std.proofs.Common.{◌≡◌, ℕ, ◌≤◌, ◌==◌, min, cond, List, [], ◌∷◌, ◌++◌, length, take, Option, Some, None, map, refl, ap, append_assoc, sym, subst, ◌∙◌, inl, inr, arith}
use Rattle.std.specs.Prelude.{option_map}
use Rattle.std.proofs.lemmas.Bool.{cases_Bool}
use Rattle.std.proofs.lemmas.List.{take-take, take-append-le, length-take, length-take-le, take-map, length-map}
use Rattle.raft_records.specs.Item.{Batch}
use Rattle.raft_base.specs.declared.pipe_log.FileId.{FileId}
use Rattle.raft_files.specs.declared.format.LogFileFormat.{LogFileFormat}
use Rattle.raft_files.specs.Header.{header_len, header_of}
use Rattle.raft_env.specs.Outcomes.{File, Change, bytes_after, untouched_len, changed_by}
use Rattle.raft_env.specs.Directory.{Directory, CrashImage, Path, file_at}
use Rattle.raft_files.specs.Scan.{PlacedRecord, end_of_records, ScanResult, records_after, scan_after_header, records_of, readable_records, readable_batches}
use Rattle.raft_files.specs.Detectable.{IsPrefixOf, format_of, signature_by, IsDetectableFile, IsDetectable}
use Rattle.raft_files.specs.Records.{AreReadAt, AreReadAfter, ReadsFirst, RecoversRecords, HasNothingFrom, HoldsRecords, FirstOf}
use Rattle.raft_files.proofs.DetectableLemmas.{prefix_trans, prefix_append, prefix_take, prefix_length, prefix_is}
use Rattle.raft_files.proofs.ScanLemmas.{records_stay, reading_is, reading-kept, end_of_read_within}
use Rattle.raft_files.proofs.ScanPlacedLemmas.{end_of_front, end_of_part}
use Rattle.raft_files.proofs.RecordsHeldLemmas.{format_of-held, left_of_held}

-- The synced records.

pub reads_first-within : (id : FileId) (format : LogFileFormat) (records : List PlacedRecord) (bytes : List ℕ) → ReadsFirst id format records bytes → end_of_records (header_len format.version) records ≤ length bytes
reads_first-within id format records bytes reads =
    let r : ScanResult = record { format = format; records = reads.all; end = reads.end } in
    let is = reading_is id bytes r reads.read in
    let front = end_of_front (records_stay id format bytes) (length bytes) (header_len format.version) records reads.first.0 (sym is.records ∙ reads.first.1) in
    omega (arith, front, end_of_read_within id bytes r reads.read, is.end, ap (λ rs. end_of_records (header_len format.version) rs) reads.first.1)

pub reads_first-kept : (id : FileId) (format : LogFileFormat) (records : List PlacedRecord) (last : ℕ) (a b : List ℕ) → ReadsFirst id format records a → take last a ≡ take last b → end_of_records (header_len format.version) records ≤ last → ReadsFirst id format records b
reads_first-kept id format records last a b reads same within =
    let from = header_len format.version in
    let behind = records_after id format b (end_of_records from records) in
    record {
      all = records ++ behind;
      end = end_of_records (end_of_records from records) behind;
      read = reading-kept id last a b (record { format = format; records = reads.all; end = reads.end }) records reads.first.0 same reads.read reads.first.1 within;
      first = prefix_append records behind;
    }

pub untouched_len_more : (synced : List ℕ) (c : Change) (changes : List Change) (len : ℕ) → len ≤ untouched_len synced changes → len ≤ c.from → len ≤ untouched_len synced (c ∷ changes)
untouched_len_more synced c changes len before within = elim (cases_Bool (c.size == 0)) [
  | inl none ↦ omega (arith, ap (λ b. cond b (untouched_len synced changes) (min c.from (untouched_len synced changes))) none)
  | inr some ↦ omega (arith, ap (λ b. cond b (untouched_len synced changes) (min c.from (untouched_len synced changes))) some)
]

-- a change after them touches none of them
covered_more : (id : FileId) (format : LogFileFormat) (records : List PlacedRecord) (synced : List ℕ) (c : Change) (changes : List Change) → ReadsFirst id format records (take (untouched_len synced changes) synced) →
    end_of_records (header_len format.version) records ≤ c.from → ReadsFirst id format records (take (untouched_len synced (c ∷ changes)) synced)
covered_more id format records synced c changes reads behind =
    let end = end_of_records (header_len format.version) records in
    let old = untouched_len synced changes in
    let new = untouched_len synced (c ∷ changes) in
    let within : end ≤ old = omega (arith, reads_first-within id format records (take old synced) reads, length-take old synced) in
    let still : end ≤ new = untouched_len_more synced c changes end within behind in
    reads_first-kept id format records end (take old synced) (take new synced) reads (take-take end old synced within ∙ sym (take-take end new synced still)) (omega arith)

-- A change keeps the records.

-- what holds of the records that are read and done at each moment since the last sync
abbrev pub AtEachMoment : (List PlacedRecord → Type 0) → FileId → Option ℕ → File → Type 0
AtEachMoment P id by file = (newer upto : List Change) → file.changes ≡ newer ++ upto → (left : List PlacedRecord) → AreReadAfter id by file upto left → P left

pub moments_more : (P : List PlacedRecord → Type 0) (id : FileId) (by : Option ℕ) (file : File) (c : Change) → AtEachMoment P id by file →
    ((left : List PlacedRecord) → AreReadAt id by c.after file.renamed_after (c ∷ file.changes ++ file.older) left → P left) → AtEachMoment P id by (changed_by c file)
moments_more P id by file c before now [] upto e = subst (λ changes. (left : List PlacedRecord) → AreReadAfter id by file changes left → P left) e now
moments_more P id by file c before now (x ∷ newer) upto e = before newer upto (cc)

pub keeps_more : (id : FileId) (format : LogFileFormat) (old all : List PlacedRecord) (synced : ℕ) (file : File) (c : Change) → RecoversRecords id format old synced file → IsPrefixOf old all →
    format_of c.after ≡ Some format → ((left : List PlacedRecord) → AreReadAt id (signature_by id format) c.after file.renamed_after (c ∷ file.changes ++ file.older) left → IsPrefixOf left all) →
    end_of_records (header_len format.version) (take synced old) ≤ c.from → end_of_records (header_len format.version) (take synced old) ≤ c.shortest → RecoversRecords id format all synced (changed_by c file)
keeps_more id format old all synced file c keeps more header moment behind short = record {
  latest = refl;
  header = headers;
  moments = moments_more (λ left. IsPrefixOf left all) id (signature_by id format) file c (λ newer upto e left read. prefix_trans left old all (keeps.moments newer upto e left read) more) moment;
  few = omega (arith, keeps.few, prefix_length old all more);
  covered = subst (λ records. ReadsFirst id format records (take (untouched_len file.synced (c ∷ file.changes)) file.synced)) same (covered_more id format (take synced old) file.synced c file.changes keeps.covered behind);
  long = omega (arith, keeps.long, short, ap (λ rs. end_of_records (header_len format.version) rs) same);
}
  where
    headers : (newer upto : List Change) → c ∷ file.changes ≡ newer ++ upto → format_of (bytes_after file.synced upto) ≡ Some format
    headers [] upto e = subst (λ changes. format_of (bytes_after file.synced changes) ≡ Some format) e header
    headers (x ∷ newer) upto e = keeps.header newer upto (cc)

    same : take synced old ≡ take synced all
    same = sym (ap (λ rs. take synced rs) more.1 ∙ take-append-le synced old more.0 keeps.few)

pub keeps_held : (id : FileId) (format : LogFileFormat) (old new all : List PlacedRecord) (synced at : ℕ) (file : File) (c : Change) → RecoversRecords id format old synced file → IsPrefixOf old all →
    HoldsRecords id format new at c.after → HasNothingFrom id at c.after file.renamed_after (c ∷ file.changes ++ file.older) → IsPrefixOf new all →
    end_of_records (header_len format.version) (take synced old) ≤ c.from → end_of_records (header_len format.version) (take synced old) ≤ c.shortest → RecoversRecords id format all synced (changed_by c file)
keeps_held id format old new all synced at file c keeps more holds nothing first behind short =
    keeps_more id format old all synced file c keeps more (format_of-held id format new at c.after holds)
    (λ left read. prefix_trans left new all (left_of_held id format (signature_by id format) new at c.after file.renamed_after (c ∷ file.changes ++ file.older) holds nothing left read) first) behind short

-- the synced records end before the place of the writer
pub synced_within : (id : FileId) (format : LogFileFormat) (records : List PlacedRecord) (synced at : ℕ) (bytes : List ℕ) → HoldsRecords id format records at bytes → end_of_records (header_len format.version) (take synced records) ≤ at
synced_within id format records synced at bytes holds =
    let front = prefix_take synced records in
    let is = reading_is id (take at bytes) (record { format = format; records = records; end = at }) holds.read in
    let before = end_of_front (records_stay id format (take at bytes)) (length (take at bytes)) (header_len format.version) (take synced records) front.0 (sym is.records ∙ front.1) in
    omega (arith, before, ap (λ rs. end_of_records (header_len format.version) rs) front.1, is.end)

-- more records are allowed, and fewer of them are synced
pub keeps_weaker : (id : FileId) (format : LogFileFormat) (records all : List PlacedRecord) (synced fewer : ℕ) (file : File) → RecoversRecords id format records synced file → IsPrefixOf records all → fewer ≤ synced → RecoversRecords id format all fewer file
keeps_weaker id format records all synced fewer file keeps more less = record {
  header = keeps.header;
  latest = keeps.latest;
  moments = λ newer upto e left read. prefix_trans left records all (keeps.moments newer upto e left read) more;
  few = omega (arith, keeps.few, prefix_length records all more);
  covered = record {
    all = keeps.covered.all;
    end = keeps.covered.end;
    read = keeps.covered.read;
    first = prefix_trans (take fewer all) (take synced records) keeps.covered.all
        (subst (λ rs. IsPrefixOf rs (take synced records)) same (prefix_take fewer (take synced records))) keeps.covered.first;
  };
  long = omega (arith, keeps.long, shorter, ap (λ rs. end_of_records (header_len format.version) rs) same);
}
  where
    -- the first of the synced ones end where they do or before
    shorter : end_of_records (header_len format.version) (take fewer (take synced records)) ≤ end_of_records (header_len format.version) (take synced records)
    shorter =
        let untouched = take (untouched_len file.synced file.changes) file.synced in
        let front = take fewer (take synced records) in
        let part = prefix_take fewer (take synced records) in
        let later = keeps.covered.first in
        let is = reading_is id untouched (record { format = format; records = keeps.covered.all; end = keeps.covered.end }) keeps.covered.read in
        omega (
          arith,
          end_of_part (records_stay id format untouched) (length untouched) (header_len format.version) front part.0 later.0
              (sym is.records ∙ later.1 ∙ ap (λ rs. rs ++ later.0) part.1 ∙ append_assoc front part.0 later.0),
          ap (λ rs. end_of_records (header_len format.version) rs) part.1,
        )

    same : take fewer (take synced records) ≡ take fewer all
    same = take-take fewer synced records less ∙ sym (ap (λ rs. take fewer rs) more.1 ∙ take-append-le fewer records more.0 (omega (arith, keeps.few)))

-- What a crash leaves.

pub readable_without_header : (id : FileId) (bytes : List ℕ) → format_of bytes ≡ None → readable_records id bytes ≡ []
readable_without_header id bytes none = by_header (header_of bytes) none
  where
    by_header : (header : Option (LogFileFormat × List ℕ)) → option_map (λ (h : LogFileFormat × List ℕ). h.0) header ≡ None → records_of (option_map (λ (h : LogFileFormat × List ℕ). scan_after_header id h.0 bytes) header) ≡ []
    by_header None e = refl
    by_header (Some h) e = cc

-- a prefix of the records is read, with the synced ones
pub read_of_left : (id : FileId) (format : LogFileFormat) (records : List PlacedRecord) (synced : ℕ) (file : File) (left : List ℕ) → RecoversRecords id format records synced file → IsDetectableFile id file left →
    (count : ℕ) × (synced ≤ count) × (count ≤ length records) × (readable_records id left ≡ take count records)
read_of_left id format records synced file left keeps detectable =
    let read = readable_records id left in
    let begins : IsPrefixOf read records = elim detectable.header [
      | inl same ↦
          let is = same ∙ keeps.header detectable.newer detectable.upto detectable.moment in
          keeps.moments detectable.newer detectable.upto detectable.moment read (record { prefix = detectable.prefix; completed = detectable.completed format is; fresh = detectable.none_stale format is })
      | inr none ↦ subst (λ rs. IsPrefixOf rs records) (sym (readable_without_header id left none)) (records, refl)
    ] in
    let untouched = take (untouched_len file.synced file.changes) file.synced in
    let synced_read : IsPrefixOf (take synced records) (readable_records id untouched) =
    subst (λ rs. IsPrefixOf (take synced records) rs) (sym (ap (λ r. records_of r) keeps.covered.read)) keeps.covered.first in
    let enough = prefix_length (take synced records) read (prefix_trans (take synced records) (readable_records id untouched) read synced_read detectable.untouched) in
    let len : length (take synced records) ≡ synced = length-take-le synced records keeps.few in (
      length read,
      omega (arith, enough, len),
      prefix_length read records begins,
      prefix_is read records begins,
    )

-- .. and so for the batches of a log file
pub keeps_batches : (path : Path) (id : FileId) (n : Directory) (file : File) (format : LogFileFormat) (records : List PlacedRecord) (synced : ℕ) (batches : List Batch) → file_at n path ≡ Some file → RecoversRecords id format records synced file →
    map (λ (p : PlacedRecord). p.batch) records ≡ batches → (d : CrashImage) → IsDetectable path id n d → FirstOf batches synced (readable_batches id (d path))
keeps_batches path id n file format records synced batches stands keeps same d detectable =
    let batch = λ (p : PlacedRecord). p.batch in
    let left = read_of_left id format records synced file (d path) keeps (detectable file stands) in (
      left.0,
      left.1,
      omega (arith, left.2, length-map records batch, ap length same),
      ap (λ rs. map batch rs) left.3 ∙ sym (take-map batch left.0 records) ∙ ap (λ bs. take left.0 bs) same,
    )
