-- A sealed file stays sealed while it is opened, and an opening seals a file. Laws of log files, which may stand in
-- raft_files.
use Rattle.std.proofs.Common.{◌≡◌, ℕ, true, List, [], length, map, Option, Some, None, cond, inl, inr, refl, sym, ◌∙◌, ap, subst, arith}
use Rattle.std.specs.Prelude.{is_some, option_map}
use Rattle.std.proofs.lemmas.Bool.{eqb-true}
use Rattle.raft_records.specs.Item.{Batch}
use Rattle.raft_base.specs.declared.pipe_log.FileId.{FileId}
use Rattle.raft_env.specs.Outcomes.{File, cut_to, synced_file, Change}
use Rattle.raft_env.specs.Directory.{Directory, IsOneOf, IsTruncating, Path, after_create, with_file}
use Rattle.raft_files.specs.Scan.{PlacedRecord, ScanResult, end_of, end_of_scan, ends_with, is_read_to_end, readable_batches, records_of, scan_after_header, scan_file}
use Rattle.raft_files.specs.Sealed.{IsSealed, IsStillBy}
use Rattle.raft_files.specs.Writer.{HasChanged, IsClosing, IsOpening, IsSyncing, bytes_at, bytes_of}
use Rattle.std.specs.List.{AllByRecursion}
use Rattle.raft_files.specs.declared.format.LogFileFormat.{LogFileFormat}
use Rattle.raft_files.proofs.RecordsCrashLemmas.{read_to_end-cut}
use Rattle.raft_files.proofs.RecordsTruncationLemmas.{reading-cut}
use Rattle.raft_files.proofs.ScanLemmas.{header_alone_is_read}
use Rattle.raft_files.proofs.SealedLemmas.{sealed_closing}
use Rattle.raft_opening.specs.LogFile.{bytes_kept, format_in}
use Rattle.raft_pipes.specs.Files.{IsDurable}
use Rattle.raft_opening.proofs.OpenLemmas.{no_header_in_nothing, nothing_readable}
use Rattle.raft_base.specs.declared.pipe_log.Version.TheVariants.{V1}

-- what is read to its end ends where its reading ends
pub end_of_scan-read_to_end : (id : FileId) (bytes : List ℕ) → is_read_to_end id bytes ≡ true → end_of_scan id bytes ≡ length bytes
end_of_scan-read_to_end id bytes = by_read (scan_file id bytes)
  where
    by_read : (read : Option ScanResult) → ends_with (length bytes) read ≡ true → end_of read ≡ length bytes
    by_read None is = cc
    by_read (Some r) is = eqb-true r.end (length bytes) is

module _ (path : Path) (id : FileId) (batches : List Batch) (old n : Directory) (sealed : IsSealed path id batches old) where
  bytes_sealed : bytes_at path old ≡ sealed.file.now
  bytes_sealed = ap bytes_of sealed.stands

  pub sealed_created : IsOneOf old (after_create path old) n → IsSealed path id batches n
  sealed_created (inl same) = subst (IsSealed path id batches) (sym same) sealed
  sealed_created (inr made) =
      let there : n ≡ old = made ∙ ap (λ (o : Option File). cond (is_some o) old (with_file path (synced_file []) old)) sealed.stands in
      subst (IsSealed path id batches) (sym there) sealed

  pub sealed_syncing : HasChanged path IsSyncing old n → IsSealed path id batches n
  sealed_syncing change =
      let closing : HasChanged path (IsClosing (length (bytes_at path old))) old n = record {
        before = change.before;
        was = change.was;
        after = change.after;
        is = change.is;
        how = (change.before, inl refl, change.how);
      } in
      (sealed_closing path id batches (length (bytes_at path old)) old n sealed refl closing).0

  pub sealed_truncating : (size : ℕ) → size ≡ end_of_scan id (bytes_at path old) → IsTruncating path size old n → IsSealed path id batches n
  sealed_truncating size end (inl same) = subst (IsSealed path id batches) (sym same) sealed
  sealed_truncating size end (inr (file, after, is_done, stands, outcome, is)) =
      let whole : size ≡ length (bytes_at path old) = end ∙ end_of_scan-read_to_end id (bytes_at path old) (ap (is_read_to_end id) bytes_sealed ∙ sealed.read) in
      let closing : HasChanged path (IsClosing size) old n = record {
        before = file;
        was = stands;
        after = cut_to size is_done after file;
        is = is;
        how = (cut_to size is_done after file, inr (after, is_done, outcome, refl), inl refl);
      } in
      (sealed_closing path id batches size old n sealed whole closing).0

  -- a file without bytes isn't sealed
  pub sealed_opening : (format : LogFileFormat) → bytes_at path old ≡ [] → IsOpening path format old n → IsSealed path id batches n
  sealed_opening format empty how =
      let none : scan_file id [] ≡ None = ap (option_map (λ h. scan_after_header id h.0 [])) no_header_in_nothing in
      let read : is_read_to_end id [] ≡ true = ap (is_read_to_end id) (sym empty ∙ bytes_sealed) ∙ sealed.read in
      absurd (let both = sym read ∙ ap (ends_with 0) none in cc)

-- what an opening keeps of bytes is read to its end, with the batches that can be read of them
pub bytes_kept_is_read : (id : FileId) (bytes : List ℕ) → let kept = bytes_kept bytes (scan_file id bytes) in (is_read_to_end id kept ≡ true) × (readable_batches id kept ≡ readable_batches id bytes)
bytes_kept_is_read id bytes = by_read (scan_file id bytes) refl
  where
    by_read : (read : Option ScanResult) → scan_file id bytes ≡ read → (is_read_to_end id (bytes_kept bytes read) ≡ true) × (readable_batches id (bytes_kept bytes read) ≡ readable_batches id bytes)
    by_read None e =
        let alone = header_alone_is_read id (format_in V1) (λ v1. refl) (omega arith) in
        (alone.1, alone.0 ∙ sym (nothing_readable id bytes e))
    by_read (Some r) e = (read_to_end-cut id bytes r e, ap (λ q. map (λ (p : PlacedRecord). p.batch) (records_of q)) (reading-cut id bytes r e ∙ sym e))

-- a durable file that is read to its end is sealed
pub durable_sealed : (path : Path) (id : FileId) (bytes : List ℕ) (n : Directory) → IsDurable path bytes n → is_read_to_end id bytes ≡ true → IsSealed path id (readable_batches id bytes) n
durable_sealed path id bytes n durable read = record {
  file = durable.file;
  stands = durable.stands;
  latest = durable.now ∙ sym durable.synced;
  still = subst (λ (changes : List Change). AllByRecursion (IsStillBy durable.file.synced) changes) (sym durable.unchanged) tt;
  read = ap (is_read_to_end id) durable.now ∙ read;
  holds = ap (readable_batches id) durable.now;
}
