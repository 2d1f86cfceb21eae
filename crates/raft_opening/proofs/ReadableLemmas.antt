-- What can be read of a log file stands while it is opened.
use Rattle.std.proofs.Common.{◌≡◌, ℕ, ◌<◌, ◌≤◌, Bool, List, [], ◌++◌, length, take, cond, Option, Some, None, slice_index, refl, ap, sym, subst, ◌∙◌, inl, inr, arith}
use Rattle.std.specs.Prelude.{is_some, option_map, ◌∷◌}
use Rattle.std.proofs.lemmas.List.{append-nil, take-take, length-take, length-take-le}
use Rattle.raft_base.specs.declared.pipe_log.FileId.{FileId}
use Rattle.raft_env.specs.Directory.{CrashImage, Directory, IsOneOf, IsTruncating, Leaves, Path, after_create, file_at, with_file}
use Rattle.raft_env.specs.Outcomes.{Change, File, IsCutOf, MayLeave, Outcome, cut_change, cut_to, least_len, synced_file, synced_of}
use Rattle.raft_env.proofs.ConsistentLemmas.{before_is_untouched}
use Rattle.raft_env.proofs.DirectoryLemmas.{file_at-placed_same}
use Rattle.raft_env.proofs.OutcomesLemmas.{same_front}
use Rattle.raft_files.specs.Records.{HoldsRecords, bytes_after_crash, image_of_file}
use Rattle.raft_files.specs.Scan.{ScanResult, end_of, end_of_scan, records_after, scan_after_header, scan_file}
use Rattle.raft_files.specs.Writer.{HasChanged, IsSyncing, bytes_at, bytes_of}
use Rattle.raft_files.proofs.RecordsHeldLemmas.{reading-held}
use Rattle.raft_files.proofs.RecordsLemmas.{untouched_len_more}
use Rattle.raft_files.proofs.RecordsLengthLemmas.{IsBehind, cut_after, holds_same}
use Rattle.raft_files.proofs.RecordsTruncationLemmas.{reading-cut}
use Rattle.raft_files.proofs.ScanExtentLemmas.{same_some}
use Rattle.raft_files.proofs.ScanLemmas.{end_of_read_within, records_stay}
use Rattle.raft_files.proofs.ScanPlacedLemmas.{placed_by-further}
use Rattle.raft_files.proofs.WriterChangeLemmas.{stands_after}
use Rattle.raft_opening.specs.Open.{IsStillAt, IsStillUpTo, LeavesReadable}
use Rattle.raft_opening.proofs.OpenLemmas.{no_header_in_nothing}

-- Readings.

pub end_within : (id : FileId) (bytes : List ℕ) → end_of_scan id bytes ≤ length bytes
end_within id bytes = by_reading (scan_file id bytes) refl
  where
    by_reading : (read : Option ScanResult) → scan_file id bytes ≡ read → end_of read ≤ length bytes
    by_reading None e = omega arith
    by_reading (Some r) e = end_of_read_within id bytes r e

-- nothing can be read of no bytes
end_of_nothing : (id : FileId) → end_of_scan id [] ≡ 0
end_of_nothing id = ap end_of (ap (λ o. option_map (λ h. scan_after_header id h.0 []) o) no_header_in_nothing)

-- bytes that begin as others up to the end of their reading are read as far
pub end_further : (id : FileId) (a b : List ℕ) → take (end_of_scan id a) b ≡ take (end_of_scan id a) a → end_of_scan id a ≤ end_of_scan id b
end_further id a b same = by_reading (scan_file id a) refl same
  where
    by_reading : (read : Option ScanResult) → scan_file id a ≡ read → take (end_of read) b ≡ take (end_of read) a → end_of read ≤ end_of_scan id b
    by_reading None e alike = omega arith
    by_reading (Some r) e alike =
        let within = end_of_read_within id a r e in
        let long : r.end ≤ length b = omega (arith, within, length-take r.end b, ap length alike, length-take-le r.end a within) in
        let held : HoldsRecords id r.format r.records r.end a = record { within = within; read = reading-cut id a r e } in
        let there = holds_same id r.format r.records r.end a b held (sym alike) long in
        let behind = records_after id r.format b r.end in
        let further = placed_by-further (records_stay id r.format b) (length b) r.end behind [] (sym (append-nil behind)) in
        omega (arith, further, ap end_of (reading-held id r.format r.records r.end b there))

-- One file.

none_touched : (file : File) → IsStillUpTo 0 file
none_touched file = record { same = refl; apart = omega arith; long = omega arith }

still_synced : (end : ℕ) (file : File) → end ≤ length file.now → IsStillUpTo end (synced_of file)
still_synced end file within = record { same = refl; apart = within; long = within }

module _ (size : ℕ) (is_done : Bool) (after : List ℕ) (file : File) (within : size ≤ length file.now) (outcome : Outcome is_done (take size file.now) (IsCutOf size file.now) after) where
  behind : IsBehind size file.now (cut_change size is_done after file.now) file.renamed_after (file.changes ++ file.older)
  behind = cut_after size is_done after file.now file.renamed_after (file.changes ++ file.older) within outcome

  abbrev left : List ℕ
  left = (cut_change size is_done after file.now).after

  now_cut : take size left ≡ take size file.now
  now_cut = sym behind.same

  still_cut : (end : ℕ) → end ≤ size → IsStillUpTo end file → IsStillUpTo end (cut_to size is_done after file)
  still_cut end few was = record {
    same = sym (take-take end size left few) ∙ ap (λ bytes. take end bytes) now_cut ∙ take-take end size file.now few ∙ was.same;
    apart = untouched_len_more file.synced (cut_change size is_done after file.now) file.changes end was.apart (omega (arith, few, behind.from));
    long = omega (arith, few, was.long, behind.shortest);
  }

-- The file at a path.

module _ (path : Path) (id : FileId) where
  pub readable_then : (a b n : Directory) → LeavesReadable path id a b → LeavesReadable path id b n → LeavesReadable path id a n
  readable_then a b n first second =
      let end = end_of_scan id (bytes_at path a) in
      let further = end_further id (bytes_at path a) (bytes_at path b) first.now in
      let later = end_of_scan id (bytes_at path b) in
      record {
        now = sym (take-take end later (bytes_at path n) further) ∙ ap (λ bytes. take end bytes) second.now ∙ take-take end later (bytes_at path b) further ∙ first.now;
        still = λ e within was. second.still e (omega (arith, within, further)) (first.still e within was);
      }

  pub readable_unchanged : (a n : Directory) → file_at n path ≡ file_at a path → LeavesReadable path id a n
  readable_unchanged a n same = record {
    now = ap (λ o. take (end_of_scan id (bytes_at path a)) (bytes_of o)) same;
    still = λ e within was file stands. was file (sym same ∙ stands);
  }

  readable_by : (a n : Directory) (before after : File) → file_at a path ≡ Some before → file_at n path ≡ Some after → take (end_of_scan id before.now) after.now ≡ take (end_of_scan id before.now) before.now
      → ((end : ℕ) → end ≤ end_of_scan id before.now → IsStillUpTo end before → IsStillUpTo end after) → LeavesReadable path id a n
  readable_by a n before after was stands same still =
      let old : bytes_at path a ≡ before.now = ap bytes_of was in
      record {
        now = subst (λ bytes. take (end_of_scan id bytes) (bytes_at path n) ≡ take (end_of_scan id bytes) bytes) (sym old) (ap (λ o. take (end_of_scan id before.now) (bytes_of o)) stands ∙ same);
        still = λ e within at_first file there. subst (IsStillUpTo e) (same_some (sym stands ∙ there)) (still e (omega (arith, within, ap (λ bytes. end_of_scan id bytes) old)) (at_first before was));
      }

  -- nothing could be read
  readable_nothing : (a n : Directory) → bytes_at path a ≡ [] → LeavesReadable path id a n
  readable_nothing a n empty =
      let none : end_of_scan id (bytes_at path a) ≡ 0 = ap (end_of_scan id) empty ∙ end_of_nothing id in
      record {
        now = subst (λ e. take e (bytes_at path n) ≡ take e (bytes_at path a)) (sym none) refl;
        still = λ e within was file stands. let zero_is : 0 ≡ e = omega (arith, within, none) in subst (λ k. IsStillUpTo k file) zero_is (none_touched file);
      }

  pub readable_created : (a n : Directory) → IsOneOf a (after_create path a) n → LeavesReadable path id a n
  readable_created a n (inl same) = readable_unchanged a n (ap (λ (m : Directory). file_at m path) same)
  readable_created a n (inr made) = by_file (file_at a path) refl (ap (λ (m : Directory). file_at m path) made)
    where
      by_file : (found : Option File) → file_at a path ≡ found → file_at n path ≡ file_at (cond (is_some found) a (with_file path (synced_file []) a)) path → LeavesReadable path id a n
      by_file None was same = readable_nothing a n (ap bytes_of was)
      by_file (Some file) was same = readable_unchanged a n same

  pub readable_syncing : (a n : Directory) → HasChanged path IsSyncing a n → LeavesReadable path id a n
  readable_syncing a n change = by_how change.how
    where
      stands : file_at n path ≡ Some change.after
      stands = stands_after path a n IsSyncing change

      by_how : IsSyncing change.before change.after → LeavesReadable path id a n
      by_how (inl same) = readable_unchanged a n (stands ∙ ap (λ (f : File). Some f) same ∙ sym change.was)
      by_how (inr is) = readable_by a n change.before change.after change.was stands (ap (λ (f : File). take (end_of_scan id change.before.now) f.now) is)
          (λ e within was. subst (IsStillUpTo e) (sym is) (still_synced e change.before (omega (arith, within, end_within id change.before.now))))

  pub readable_truncating : (a n : Directory) (size : ℕ) → size ≡ end_of_scan id (bytes_at path a) → IsTruncating path size a n → LeavesReadable path id a n
  readable_truncating a n size end (inl same) = readable_unchanged a n (ap (λ (m : Directory). file_at m path) same)
  readable_truncating a n size end (inr (file, after, is_done, was, outcome, is)) =
      let cut = cut_to size is_done after file in
      let size_is : size ≡ end_of_scan id file.now = end ∙ ap (λ o. end_of_scan id (bytes_of o)) was in
      let within : size ≤ length file.now = omega (arith, size_is, end_within id file.now) in
      readable_by a n file cut was (ap (λ (m : Directory). file_at m path) is ∙ file_at-placed_same path cut a)
      (subst (λ e. take e (cut_change size is_done after file.now).after ≡ take e file.now) size_is (now_cut size is_done after file within outcome))
      (λ e few. still_cut size is_done after file within outcome e (omega (arith, few, size_is)))

  pub readable_opening : (a n : Directory) → bytes_at path a ≡ [] → LeavesReadable path id a n
  readable_opening = readable_nothing

-- A crash.

least_within : (synced : List ℕ) (changes : List Change) → least_len synced changes ≤ length synced
least_within synced [] = omega arith
least_within synced (c ∷ changes) = omega (arith, least_within synced changes)

-- so many first bytes of the file are left
pub still_left : (end : ℕ) (file : File) (left : List ℕ) → IsStillUpTo end file → MayLeave file left → (end ≤ length left) × (take end left ≡ take end file.now)
still_left end file left still may =
    let apart = still.apart in
    let within : end ≤ length file.synced = omega (arith, still.long, least_within file.synced file.changes) in
    let long : end ≤ length left = omega (arith, still.long, may.no_shorter) in
    let each : (i : ℕ) → i < end → slice_index left i ≡ slice_index file.synced i = λ i before. may.untouched i (omega arith) (omega arith) (before_is_untouched file.synced file.changes i (omega arith)) in
    (long, same_front end left file.synced long within each ∙ sym still.same)

pub still_at_left : (end : ℕ) (path : Path) (n : Directory) → IsStillAt end path n → (d : CrashImage) → Leaves n d → take end (bytes_after_crash path n d) ≡ take end (bytes_at path n)
still_at_left end path n still d leaves = by_file (file_at n path) refl
  where
    by_file : (found : Option File) → file_at n path ≡ found → take end (image_of_file found (d path)) ≡ take end (bytes_of found)
    by_file None is = refl
    by_file (Some file) is = (still_left end file (d path) (still file is) (leaves.each path file is)).1
