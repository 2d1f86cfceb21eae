-- What a crash leaves of the log file at a path, whatever calls change it.
use Rattle.std.proofs.Common.{◌≡◌, ℕ, ◌≤◌, List, [], ◌∷◌, ◌++◌, length, take, Option, Some, None, is_some, cond, true, map, refl, ap, sym, subst, ◌∙◌, inl, inr, arith}
use Rattle.std.specs.Prelude.{option_map}
use Rattle.std.proofs.lemmas.List.{append-nil, map-append, take_all, take-take, take-append-le, length-take-le}
use Rattle.std.proofs.lemmas.Bool.{eq-eqb}
use Rattle.raft_records.specs.Item.{Batch}
use Rattle.raft_base.specs.declared.pipe_log.FileId.{FileId}
use Rattle.raft_files.specs.declared.format.LogFileFormat.{LogFileFormat}
use Rattle.raft_files.specs.Header.{header_bytes, header_len}
use Rattle.raft_env.specs.Outcomes.{File, file_after_resize, cut_to, synced_of, synced_file, bytes_after}
use Rattle.raft_env.specs.Directory.{Directory, CrashImage, Path, file_at, with_file, after_create, update_file, update_at, IsOneOf, IsTruncating, IsRestarted}
use Rattle.raft_files.specs.Scan.{PlacedRecord, ScanResult, records_after, end_of_records, scan_file, records_of, readable_records, readable_batches, end_of_scan, ends_with, is_read_to_end}
use Rattle.raft_files.specs.Detectable.{IsPrefixOf, format_of, signature_by, IsDetectable}
use Rattle.raft_files.specs.Records.{ReadsFirst, RecoversRecords, HoldsRecords, IsWrittenTo, HasLog, HasTornLog, image_of_file, bytes_after_crash, FirstOf, RecoversLog, RecoversNoRecord, RecoversNothingAt, RecoversPrefixAt}
use Rattle.raft_files.specs.Writer.{HasChanged, IsOpening, IsAppending, IsCutting, IsSynced, IsSyncing, IsClosing, capacity_for, bytes_of, bytes_at}
use Rattle.raft_files.proofs.DetectableLemmas.{prefix_trans, prefix_append, prefix_take}
use Rattle.raft_env.proofs.DirectoryLemmas.{file_at-placed_same}
use Rattle.raft_files.proofs.ScanExtentLemmas.{same_some}
use Rattle.raft_files.proofs.RecordsHeldLemmas.{reading-held, format_of_read}
use Rattle.raft_files.proofs.RecordsLemmas.{keeps_batches, keeps_weaker, reads_first-within}
use Rattle.raft_files.proofs.RecordsFreshLemmas.{header_len_within, readable_records-short}
use Rattle.raft_files.proofs.RecordsNoneLemmas.{moments_synced, none_left, only_moment, none_settled, none_synced, none_appending}
use Rattle.raft_files.proofs.RecordsTruncationLemmas.{reading-cut, keeps_cut, none_cut}
use Rattle.raft_files.proofs.ScanLemmas.{header_within, end_of_read_within}
use Rattle.raft_files.proofs.RecordsLogLemmas.{count_of, torn_of_log, torn_log_cutting}
use Rattle.raft_files.proofs.RecordsSyncLemmas.{written_to_whole}
use Rattle.raft_files.proofs.WriterChangeLemmas.{stands_after}

-- What a crash then leaves.

pub kept_left : (path : Path) (id : FileId) (batches : List Batch) (synced : ℕ) (n : Directory) → RecoversPrefixAt path id batches synced n → (d : CrashImage) → IsDetectable path id n d → FirstOf batches synced (readable_batches id (bytes_after_crash path n d))
kept_left path id batches synced n (inl log) d detectable =
    subst (λ found. FirstOf batches synced (readable_batches id (image_of_file found (d path)))) (sym log.stands)
    (keeps_batches path id n log.file log.format log.records synced batches log.stands log.keeps log.holds d detectable)
kept_left path id batches synced n (inr (nothing, none_synced)) d detectable =
    (0, omega (arith, none_synced), omega arith, by_file (file_at n path) refl)
  where
    by_file : (found : Option File) → file_at n path ≡ found → readable_batches id (image_of_file found (d path)) ≡ []
    by_file None e = ap (λ rs. map (λ (p : PlacedRecord). p.batch) rs) (readable_records-short id [] (omega arith))
    by_file (Some file) e = none_left id file (d path) (nothing file e) (detectable file e)

-- Logs are kept.

-- the first of the records that bytes hold are read first
reads_held : (id : FileId) (format : LogFileFormat) (records others : List PlacedRecord) (synced at : ℕ) (bytes : List ℕ) → HoldsRecords id format records at bytes → synced ≤ length records → ReadsFirst id format (take synced (records ++ others)) bytes
reads_held id format records others synced at bytes holds few =
    let behind = records_after id format bytes at in
    let first = prefix_trans (take synced records) records (records ++ behind) (prefix_take synced records) (prefix_append records behind) in
    record {
      all = records ++ behind;
      end = end_of_records at behind;
      read = reading-held id format records at bytes holds;
      first = subst (λ rs. IsPrefixOf rs (records ++ behind)) (sym (take-append-le synced records others few)) first;
    }

pub log_kept : (path : Path) (id : FileId) (format : LogFileFormat) (batches : List Batch) (synced at : ℕ) (n : Directory) → HasLog path id format batches synced at n → RecoversPrefixAt path id batches synced n
log_kept path id format batches synced at n log = inl (record {
  file = log.file;
  stands = log.stands;
  format = format;
  records = log.records;
  holds = log.holds;
  keeps = log.written.keeps;
  reads = subst (λ rs. ReadsFirst id format (take synced rs) log.file.now) (append-nil log.records) (reads_held id format log.records [] synced at log.file.now log.written.holds log.written.keeps.few);
})

pub torn_log_kept : (path : Path) (id : FileId) (format : LogFileFormat) (batches in_flight : List Batch) (synced at : ℕ) (n : Directory) → HasTornLog path id format batches in_flight synced at n → RecoversPrefixAt path id (batches ++ in_flight) synced n
torn_log_kept path id format batches in_flight synced at n log = inl (record {
  file = log.file;
  stands = log.stands;
  format = format;
  records = log.records ++ log.others;
  holds = map-append (λ (p : PlacedRecord). p.batch) log.records log.others ∙ ap (λ bs. bs ++ map (λ (p : PlacedRecord). p.batch) log.others) log.holds ∙ ap (λ bs. batches ++ bs) log.torn_holds;
  keeps = log.torn.keeps;
  reads = reads_held id format log.records log.others synced at log.file.now log.torn.holds log.torn.few;
})

-- more batches are allowed
pub kept_more : (path : Path) (id : FileId) (batches more : List Batch) (synced : ℕ) (n : Directory) → RecoversPrefixAt path id batches synced n → RecoversPrefixAt path id (batches ++ more) synced n
kept_more path id batches more synced n (inr none) = inr none
kept_more path id batches more synced n (inl log) = inl (record {
  file = log.file;
  stands = log.stands;
  format = log.format;
  records = log.records ++ others;
  holds = map-append (λ (p : PlacedRecord). p.batch) log.records others ∙ ap (λ bs. bs ++ map (λ (p : PlacedRecord). p.batch) others) log.holds ∙ ap (λ bs. batches ++ bs) (same more);
  keeps = keeps_weaker id log.format log.records (log.records ++ others) synced synced log.file log.keeps (prefix_append log.records others) (omega arith);
  reads = subst (λ rs. ReadsFirst id log.format rs log.file.now) (sym (take-append-le synced log.records others log.keeps.few)) log.reads;
})
  where
    -- the records of these batches may stand anywhere
    others_of : List Batch → List PlacedRecord
    others_of bs = map (λ b. record { at = 0; len = 0; batch = b }) bs

    others : List PlacedRecord
    others = others_of more

    same : (bs : List Batch) → map (λ (p : PlacedRecord). p.batch) (others_of bs) ≡ bs
    same [] = refl
    same (b ∷ bs) = ap (λ rest. b ∷ rest) (same bs)

-- where no file stands nothing is left
pub kept_none : (path : Path) (id : FileId) (batches : List Batch) (n : Directory) → file_at n path ≡ None → RecoversPrefixAt path id batches 0 n
kept_none path id batches n none = inr (λ file stands. let no_file : None ≡ Some file = sym none ∙ stands in absurd cc, refl)

-- A file that a crash leaves as it is.

-- all records are read first
reads_all : (id : FileId) (bytes : List ℕ) (r : ScanResult) → scan_file id bytes ≡ Some r → ReadsFirst id r.format (take (length r.records) r.records) bytes
reads_all id bytes r e = record { all = r.records; end = r.end; read = e; first = prefix_take (length r.records) r.records }

keeps_settled : (id : FileId) (bytes : List ℕ) (r : ScanResult) → scan_file id bytes ≡ Some r → RecoversRecords id r.format r.records (length r.records) (synced_file bytes)
keeps_settled id bytes r e = record {
  latest = refl;
  header = only_moment (λ changes. format_of (bytes_after bytes changes) ≡ Some r.format) (format_of_read id bytes r e);
  moments = λ newer upto moment left read. subst (λ rs. IsPrefixOf left rs) (only_moment (λ changes. readable_records id (bytes_after bytes changes) ≡ r.records) (ap (λ q. records_of q) e) newer upto moment) read.prefix;
  few = omega arith;
  covered = subst (λ b. ReadsFirst id r.format (take (length r.records) r.records) b) (sym (take_all (length bytes) bytes (omega arith))) (reads_all id bytes r e);
  long = reads_first-within id r.format (take (length r.records) r.records) bytes (reads_all id bytes r e);
}

pub kept_settled : (path : Path) (id : FileId) (bytes : List ℕ) (n : Directory) → file_at n path ≡ Some (synced_file bytes) → RecoversPrefixAt path id (readable_batches id bytes) (length (readable_batches id bytes)) n
kept_settled path id bytes n stands = by_reading (scan_file id bytes) refl
  where
    batches_of : List PlacedRecord → List Batch
    batches_of rs = map (λ p. p.batch) rs

    by_reading : (read : Option ScanResult) → scan_file id bytes ≡ read → RecoversPrefixAt path id (batches_of (records_of read)) (length (batches_of (records_of read))) n
    by_reading None e = inr (λ file stands_too. subst (λ f. RecoversNoRecord id f) (same_some (sym stands ∙ stands_too)) (none_settled id bytes (ap (λ q. records_of q) e)), refl)
    by_reading (Some r) e = subst (λ count. RecoversPrefixAt path id (batches_of r.records) count n) (count_of r.records (batches_of r.records) refl) (inl (record {
      file = synced_file bytes;
      stands = stands;
      format = r.format;
      records = r.records;
      holds = refl;
      keeps = keeps_settled id bytes r e;
      reads = reads_all id bytes r e;
    }))

-- after a crash all that is found stays
pub kept_restarted : (path : Path) (id : FileId) (n m : Directory) (d : CrashImage) → IsRestarted n d m → let found = readable_batches id (bytes_after_crash path n d) in RecoversPrefixAt path id found (length found) m
kept_restarted path id n m d restarted = by_file (file_at n path) refl
  where
    Kept : List ℕ → Type 0
    Kept bytes = RecoversPrefixAt path id (readable_batches id bytes) (length (readable_batches id bytes)) m

    by_file : (found : Option File) → file_at n path ≡ found → Kept (image_of_file found (d path))
    by_file None e =
        let none : readable_batches id [] ≡ [] = ap (λ rs. map (λ (p : PlacedRecord). p.batch) rs) (readable_records-short id [] (omega arith)) in
        let stands : file_at m path ≡ None = restarted.each path ∙ ap (λ found. option_map (λ _. synced_file (d path)) found) e in
        subst (λ bs. RecoversPrefixAt path id bs (length bs) m) (sym none) (kept_none path id [] m stands)
    by_file (Some file) e = kept_settled path id (d path) m (restarted.each path ∙ ap (λ found. option_map (λ _. synced_file (d path)) found) e)

-- Syncs.

-- a sync changes nothing of what a crash may leave, but for the moments before it
keeps_synced : (id : FileId) (format : LogFileFormat) (records : List PlacedRecord) (synced : ℕ) (file : File) → RecoversRecords id format records synced file → ReadsFirst id format (take synced records) file.now → RecoversRecords id format records synced (synced_of file)
keeps_synced id format records synced file keeps reads = record {
  latest = refl;
  header = only_moment (λ changes. format_of (bytes_after file.now changes) ≡ Some format) (ap format_of keeps.latest ∙ keeps.header [] file.changes refl);
  moments = moments_synced (λ left. IsPrefixOf left records) id (signature_by id format) file keeps.latest keeps.moments;
  few = keeps.few;
  covered = subst (λ b. ReadsFirst id format (take synced records) b) (sym (take_all (length file.now) file.now (omega arith))) reads;
  long = reads_first-within id format (take synced records) file.now reads;
}

-- a moment of a sync of the file there
module _ (path : Path) (id : FileId) (batches : List Batch) (synced : ℕ) (old new : Directory) where
  pub syncing_kept : (before after : File) → file_at old path ≡ Some before → file_at new path ≡ Some after → IsSyncing before after → RecoversPrefixAt path id batches synced old → RecoversPrefixAt path id batches synced new
  syncing_kept before after was stands how (inl log) = inl (by_step (subst (λ f. IsSyncing f after) (same_some (sym was ∙ log.stands)) how))
    where
      by_step : IsSyncing log.file after → RecoversLog path id batches synced new
      by_step (inl same) = record { file = log.file; stands = stands ∙ ap Some same; format = log.format; records = log.records; holds = log.holds; keeps = log.keeps; reads = log.reads }
      by_step (inr is) = record {
        file = synced_of log.file;
        stands = stands ∙ ap Some is;
        format = log.format;
        records = log.records;
        holds = log.holds;
        keeps = keeps_synced id log.format log.records synced log.file log.keeps log.reads;
        reads = log.reads;
      }
  syncing_kept before after was stands how (inr (nothing, none)) = inr (λ file stands_too. subst (λ f. RecoversNoRecord id f) (same_some (sym stands ∙ stands_too)) (by_step how), none)
    where
      by_step : IsSyncing before after → RecoversNoRecord id after
      by_step (inl same) = subst (λ f. RecoversNoRecord id f) (sym same) (nothing before was)
      by_step (inr is) = subst (λ f. RecoversNoRecord id f) (sym is) (none_synced id before (nothing before was))

  pub kept_syncing : HasChanged path IsSyncing old new → RecoversPrefixAt path id batches synced old → RecoversPrefixAt path id batches synced new
  kept_syncing change = syncing_kept change.before change.after change.was (stands_after path old new IsSyncing change) change.how

  -- a change of other files and folders
  pub kept_beside : file_at new path ≡ file_at old path → RecoversPrefixAt path id batches synced old → RecoversPrefixAt path id batches synced new
  kept_beside same (inl log) = inl (record { file = log.file; stands = same ∙ log.stands; format = log.format; records = log.records; holds = log.holds; keeps = log.keeps; reads = log.reads })
  kept_beside same (inr (nothing, none)) = inr (λ file stands. nothing file (sym same ∙ stands), none)

-- Moments of a writer's calls.

module _ (path : Path) (old new : Directory) (id : FileId) (format : LogFileFormat) (batches : List Batch) (synced at : ℕ) where
  -- the file is cut before it is synced
  halfway : (change : HasChanged path (IsClosing at) old new) → HasChanged path (IsCutting at) old (with_file path change.how.0 old)
  halfway change = record { before = change.before; was = change.was; after = change.how.0; is = refl; how = change.how.1 }

  then_synced : (all : List Batch) (change : HasChanged path (IsClosing at) old new) → RecoversPrefixAt path id all synced (with_file path change.how.0 old) → RecoversPrefixAt path id all synced new
  then_synced all change =
      syncing_kept path id all synced (with_file path change.how.0 old) new change.how.0 change.after (file_at-placed_same path change.how.0 old) (stands_after path old new (IsClosing at) change) change.how.2

  pub log_syncing_kept : HasLog path id format batches synced at old → HasChanged path IsSyncing old new → RecoversPrefixAt path id batches synced new
  log_syncing_kept log change = kept_syncing path id batches synced old new change (log_kept path id format batches synced at old log)

  pub torn_log_closing_kept : (in_flight : List Batch) → HasTornLog path id format batches in_flight synced at old → HasChanged path (IsClosing at) old new → RecoversPrefixAt path id (batches ++ in_flight) synced new
  torn_log_closing_kept in_flight log change =
      let mid = with_file path change.how.0 old in
      then_synced (batches ++ in_flight) change (torn_log_kept path id format batches in_flight synced at mid (torn_log_cutting path old mid id format batches in_flight synced at log (halfway change)))

  pub log_closing_kept : HasLog path id format batches synced at old → HasChanged path (IsClosing at) old new → RecoversPrefixAt path id batches synced new
  log_closing_kept log change = subst (λ bs. RecoversPrefixAt path id bs synced new) (append-nil batches) (torn_log_closing_kept [] (torn_of_log path old new id format batches synced at log) change)

-- Moments of an opening.

module _ (path : Path) (id : FileId) (batches : List Batch) (synced : ℕ) (old new : Directory) where
  -- a moment of a truncation to the end of what is read
  pub kept_truncating : (size : ℕ) → size ≡ end_of_scan id (bytes_at path old) → IsTruncating path size old new → RecoversPrefixAt path id batches synced old → RecoversPrefixAt path id batches synced new
  kept_truncating size cuts (inl same) kept = subst (RecoversPrefixAt path id batches synced) (sym same) kept
  kept_truncating size cuts (inr (before, after, is_done, was, outcome, is)) kept = by_kept kept
    where
      cut : File
      cut = cut_to size is_done after before

      stands : file_at new path ≡ Some cut
      stands = ap (λ (n : Directory). file_at n path) is ∙ file_at-placed_same path cut old

      cuts_file : size ≡ end_of_scan id before.now
      cuts_file = cuts ∙ ap (λ file. end_of_scan id (bytes_of file)) was

      by_kept : RecoversPrefixAt path id batches synced old → RecoversPrefixAt path id batches synced new
      by_kept (inl log) =
          let same : log.file ≡ before = same_some (sym log.stands ∙ was) in
          let both = subst (λ f. RecoversRecords id log.format log.records synced f × ReadsFirst id log.format (take synced log.records) f.now) same (log.keeps, log.reads) in
          let kept = keeps_cut id log.format log.records synced size is_done after before both.0 both.1 cuts_file outcome in
          inl (record { file = cut; stands = stands; format = log.format; records = log.records; holds = log.holds; keeps = kept.0; reads = kept.1 })
      by_kept (inr (nothing, none)) = inr (λ file stands_too. subst (RecoversNoRecord id) (same_some (sym stands ∙ stands_too)) (none_cut id size is_done after before (nothing before was) cuts_file outcome), none)

  -- a moment of the making of a file
  pub kept_created : IsOneOf old (after_create path old) new → RecoversPrefixAt path id batches synced old → RecoversPrefixAt path id batches synced new
  kept_created (inl same) kept = subst (RecoversPrefixAt path id batches synced) (sym same) kept
  kept_created (inr is) kept = subst (RecoversPrefixAt path id batches synced) (sym is) (by_file (file_at old path) refl kept)
    where
      by_file : (found : Option File) → file_at old path ≡ found → RecoversPrefixAt path id batches synced old → RecoversPrefixAt path id batches synced (cond (is_some found) old (with_file path (synced_file []) old))
      by_file (Some file) e kept = kept
      by_file None e (inl log) = let no_file : None ≡ Some log.file = sym e ∙ log.stands in absurd cc
      by_file None e (inr (nothing, none)) = inr (λ file stands. subst (RecoversNoRecord id) (same_some (sym (file_at-placed_same path (synced_file []) old) ∙ stands)) (none_settled id [] (readable_records-short id [] (omega arith))), none)

  -- a moment of the writing of a header into a file that is no longer than that
  pub nothing_opening : (format : LogFileFormat) → length (bytes_at path old) ≤ header_len format.version → IsOpening path format old new → RecoversNothingAt path id old → RecoversNothingAt path id new
  nothing_opening format short (inl same) nothing = subst (RecoversNothingAt path id) (sym same) nothing
  nothing_opening format short (inr change) nothing = λ file stands. subst (RecoversNoRecord id) (same_some (sym (stands_after path old new (IsAppending (length (bytes_at path old)) (room (length (bytes_at path old))) 0 (header_bytes format)) change) ∙ stands)) none
    where
      room : ℕ → ℕ
      room size = capacity_for (header_len format.version) 0 size

      now : length (bytes_at path old) ≡ length change.before.now
      now = ap (λ found. length (bytes_of found)) change.was

      none : RecoversNoRecord id change.after
      none = none_appending id format change.before change.after (omega (arith, short, now)) (nothing change.before change.was)
          (subst (λ size. IsAppending size (room size) 0 (header_bytes format) change.before change.after) now change.how)

  -- .. where that file is empty
  pub kept_opening : (format : LogFileFormat) → bytes_at path old ≡ [] → IsOpening path format old new → RecoversPrefixAt path id batches synced old → RecoversPrefixAt path id batches synced new
  kept_opening format empty how (inr (nothing, none)) = inr (nothing_opening format (omega (arith, ap length empty)) how nothing, none)
  kept_opening format empty how (inl log) =
      let none : log.file.now ≡ [] = sym (ap bytes_of log.stands) ∙ empty in
      let long = header_within id log.file.now (record { format = log.format; records = log.reads.all; end = log.reads.end }) log.reads.read in
      absurd (omega (arith, long, ap length none, (header_len_within log.format.version).0))

-- What is found and cut where the reading ends.

-- it is read to its end
pub read_to_end-cut : (id : FileId) (bytes : List ℕ) (r : ScanResult) → scan_file id bytes ≡ Some r → is_read_to_end id (take r.end bytes) ≡ true
read_to_end-cut id bytes r e =
    let len : length (take r.end bytes) ≡ r.end = length-take-le r.end bytes (end_of_read_within id bytes r e) in
    ap (λ read. ends_with (length (take r.end bytes)) read) (reading-cut id bytes r e) ∙ eq-eqb r.end (length (take r.end bytes)) (sym len)

pub bytes_truncated : (path : Path) (size : ℕ) (old new : Directory) → new ≡ update_file path (λ f. file_after_resize (take size f.now) f) old → bytes_at path new ≡ take size (bytes_at path old)
bytes_truncated path size old new is = by_file (file_at old path) refl
  where
    cut : File → File
    cut f = file_after_resize (take size f.now) f

    by_file : (found : Option File) → file_at old path ≡ found → bytes_at path new ≡ take size (bytes_of found)
    by_file None e =
        ap (λ n. bytes_at path n) (is ∙ ap (λ o. update_at path cut o old) e)
        ∙ ap bytes_of e
        ∙ sym (take_all size [] (omega arith))
    by_file (Some file) e =
        ap (λ n. bytes_at path n) (is ∙ ap (λ o. update_at path cut o old) e)
        ∙ ap bytes_of (file_at-placed_same path (cut file) old)

-- .. and once it is synced it is a log with these batches
pub log_found_cut : (path : Path) (id : FileId) (r : ScanResult) (old cut new : Directory) → let bytes = bytes_at path old in let found = readable_batches id bytes in
    scan_file id bytes ≡ Some r → bytes_at path cut ≡ take r.end bytes → HasChanged path IsSynced cut new → HasLog path id r.format found (length found) r.end new
log_found_cut path id r old cut new e is change =
    let bytes = bytes_at path old in
    let found = readable_batches id bytes in
    let file = change.before in
    let now : file.now ≡ take r.end bytes = sym (ap bytes_of change.was) ∙ is in
    let len : length (take r.end bytes) ≡ r.end = length-take-le r.end bytes (end_of_read_within id bytes r e) in
    let held : HoldsRecords id r.format r.records r.end (take r.end bytes) = record { within = omega arith; read = ap (scan_file id) (take-take r.end r.end bytes (omega arith)) ∙ reading-cut id bytes r e } in
    let written = written_to_whole id r.format r.records r.end file (subst (HoldsRecords id r.format r.records r.end) (sym now) held) (omega (arith, ap length now, len)) in
    let holds : map (λ (p : PlacedRecord). p.batch) r.records ≡ found = sym (ap (λ q. map (λ (p : PlacedRecord). p.batch) (records_of q)) e) in
    record {
      file = change.after;
      stands = stands_after path cut new IsSynced change;
      records = r.records;
      holds = holds;
      written = subst (λ n. IsWrittenTo id r.format r.records n r.end change.after) (count_of r.records found holds)
          (subst (IsWrittenTo id r.format r.records (length r.records) r.end) (sym change.how) written);
    }
