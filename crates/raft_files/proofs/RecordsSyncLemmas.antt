-- Syncs of a log file.
use Rattle.std.proofs.Common.{◌≤◌, ◌≡◌, ℕ, ◌^◌, ◌<◌, true, List, [], ◌∷◌, ◌++◌, length, take, Option, Some, None, refl, ap, sym, subst, ◌∙◌, inl, arith}
use Rattle.std.proofs.lemmas.Bool.{eqb-true}
use Rattle.std.proofs.lemmas.List.{take_all}
use Rattle.raft_base.specs.declared.pipe_log.FileId.{FileId}
use Rattle.raft_files.specs.declared.format.LogFileFormat.{LogFileFormat}
use Rattle.raft_files.specs.Header.{HasHeader, header_bytes, header_len}
use Rattle.raft_env.specs.Outcomes.{File, Change, bytes_after, synced_of}
use Rattle.raft_files.specs.Scan.{PlacedRecord, end_of_records, ScanResult, records_after, scan_file, records_of, readable_records, ends_with, is_read_to_end}
use Rattle.raft_files.specs.Detectable.{IsPrefixOf, format_of, signature_by}
use Rattle.raft_files.specs.Records.{AreReadAfter, ReadsFirst, IsEmptyFrom, HasNothingFrom, HoldsRecords, IsWrittenTo, IsTornFrom}
use Rattle.raft_files.proofs.RecordsLemmas.{reads_first-within}
use Rattle.raft_files.proofs.HeaderLemmas.{length-header_bytes}
use Rattle.raft_files.proofs.ScanExtentLemmas.{same_some}
use Rattle.raft_files.proofs.ScanLemmas.{reading-header_bytes}
use Rattle.raft_files.proofs.RecordsEmptyLemmas.{has_nothing_past}
use Rattle.raft_files.proofs.RecordsHeldLemmas.{reading-held, format_of_read, format_of-held, left_of_held}

-- a file that a crash leaves as it is
abbrev pub still : List ℕ → List Change → Option ℕ → File
still bytes older renamed = record { now = bytes; synced = bytes; changes = []; older = older; renamed_after = renamed }

pub written_to_still : (id : FileId) (format : LogFileFormat) (records : List PlacedRecord) (at : ℕ) (bytes : List ℕ) (older : List Change) (renamed : Option ℕ) → HoldsRecords id format records at bytes → IsEmptyFrom at bytes renamed older → HasNothingFrom id at bytes renamed older →
    IsWrittenTo id format records (length records) at (still bytes older renamed)
written_to_still id format records at bytes older renamed holds empty nothing =
    let behind = records_after id format bytes at in
    let whole : take (length bytes) bytes ≡ bytes = take_all (length bytes) bytes (omega arith) in
    let first : ReadsFirst id format (take (length records) records) bytes = record {
      all = records ++ behind;
      end = end_of_records at behind;
      read = reading-held id format records at bytes holds;
      first = (behind, ap (λ rs. rs ++ behind) (sym (take_all (length records) records (omega arith))));
    } in
    record {
      keeps = record {
        latest = refl;
        header = headers;
        moments = moments;
        few = omega arith;
        covered = subst (λ b. ReadsFirst id format (take (length records) records) b) (sym whole) first;
        long = reads_first-within id format (take (length records) records) bytes first;
      };
      holds = holds;
      empty = empty;
      nothing = nothing;
    }
  where
    headers : (newer upto : List Change) → [] ≡ newer ++ upto → format_of (bytes_after bytes upto) ≡ Some format
    headers [] [] e = format_of-held id format records at bytes holds
    headers [] (x ∷ upto) e = cc
    headers (x ∷ newer) upto e = cc

    moments : (newer upto : List Change) → [] ≡ newer ++ upto → (left : List PlacedRecord) → AreReadAfter id (signature_by id format) (still bytes older renamed) upto left → IsPrefixOf left records
    moments [] [] e = left_of_held id format (signature_by id format) records at bytes renamed older holds nothing
    moments [] (x ∷ upto) e = cc
    moments (x ∷ newer) upto e = cc

-- a sync
pub written_to_synced : (id : FileId) (format : LogFileFormat) (records : List PlacedRecord) (synced at : ℕ) (file : File) → IsWrittenTo id format records synced at file → IsWrittenTo id format records (length records) at (synced_of file)
written_to_synced id format records synced at file written_to = written_to_still id format records at file.now (file.changes ++ file.older) file.renamed_after written_to.holds written_to.empty written_to.nothing

-- .. of a file that ends there
pub written_to_whole : (id : FileId) (format : LogFileFormat) (records : List PlacedRecord) (at : ℕ) (file : File) → HoldsRecords id format records at file.now → length file.now ≤ at → IsWrittenTo id format records (length records) at (synced_of file)
written_to_whole id format records at file holds short =
    written_to_still id format records at file.now (file.changes ++ file.older) file.renamed_after holds (inl (λ i above below. absurd (omega arith))) (has_nothing_past id at file.now file.renamed_after (file.changes ++ file.older) short)

-- a sync of a file that was cut back
pub torn_synced : (id : FileId) (format : LogFileFormat) (records in_flight : List PlacedRecord) (synced at : ℕ) (file : File) → IsTornFrom id format records in_flight synced at file → length file.now ≡ at → IsWrittenTo id format records (length records) at (synced_of file)
torn_synced id format records in_flight synced at file torn cut = written_to_whole id format records at file torn.holds (omega (arith, cut))

-- a file with a header alone that is synced
pub written_to_header : (id : FileId) (file : File) (format : LogFileFormat) → HasHeader format → format.alignment < 2 ^ 64 → file.now ≡ header_bytes format → IsWrittenTo id format [] 0 (header_len format.version) (synced_of file)
written_to_header id file format has fits is =
    let bytes = header_bytes format in
    let at = header_len format.version in
    let len : length bytes ≡ at = length-header_bytes format.version format.alignment in
    let holds : HoldsRecords id format [] at bytes = record {
      within = omega arith;
      read = ap (λ b. scan_file id b) (take_all at bytes (omega arith)) ∙ reading-header_bytes id format has fits ∙ ap (λ n. Some (record { format = format; records = []; end = n })) len;
    } in
    let now : HoldsRecords id format [] at file.now = subst (λ b. HoldsRecords id format [] at b) (sym is) holds in
    written_to_whole id format [] at file now (omega (arith, ap length is))

-- a file that is read to its end and synced
pub written_to_read : (id : FileId) (file : File) (bytes : List ℕ) (format : LogFileFormat) → file.now ≡ bytes → format_of bytes ≡ Some format → is_read_to_end id bytes ≡ true →
    IsWrittenTo id format (readable_records id bytes) (length (readable_records id bytes)) (length bytes) (synced_of file)
written_to_read id file bytes format now header to_end =
    let holds : HoldsRecords id format (readable_records id file.now) (length file.now) file.now =
    record { within = omega arith; read = ap (λ b. scan_file id b) (take_all (length file.now) file.now (omega arith)) ∙ whole file.now (ap format_of now ∙ header) (ap (λ b. is_read_to_end id b) now ∙ to_end) } in
    let written = written_to_whole id format (readable_records id file.now) (length file.now) file holds (omega arith) in
    subst (λ b. IsWrittenTo id format (readable_records id b) (length (readable_records id b)) (length b) (synced_of file)) now written
  where
    whole : (b : List ℕ) → format_of b ≡ Some format → is_read_to_end id b ≡ true → scan_file id b ≡ Some (record { format = format; records = readable_records id b; end = length b })
    whole b is ends = by_reading (scan_file id b) refl ends
      where
        by_reading : (read : Option ScanResult) → scan_file id b ≡ read → ends_with (length b) read ≡ true → read ≡ Some (record { format = format; records = records_of read; end = length b })
        by_reading None e ends = cc
        by_reading (Some r) e ends =
            let same : r.format ≡ format = same_some (sym (format_of_read id b r e) ∙ is) in
            ap (λ f. Some (record { format = f; records = r.records; end = r.end })) same
            ∙ ap (λ n. Some (record { format = format; records = r.records; end = n })) (eqb-true r.end (length b) ends)
