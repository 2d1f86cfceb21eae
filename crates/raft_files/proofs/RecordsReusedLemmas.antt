-- A log file that is renamed and begun anew: nothing of what it held under its old name is found.
use Rattle.std.proofs.Common.{◌≡◌, ℕ, ◌+◌, ◌-◌, ◌^◌, ◌<◌, ◌≤◌, true, false, List, [], ◌∷◌, ◌++◌, length, take, Option, Some, None, IsSome, Contains, refl, ap, sym, subst, ◌∙◌, inl, inr, arith}
use Rattle.std.proofs.lemmas.List.{take_at, length-append, length-take}
use Rattle.raft_base.specs.declared.pipe_log.FileId.{FileId}
use Rattle.raft_files.specs.declared.format.LogFileFormat.{LogFileFormat}
use Rattle.raft_files.specs.Header.{HasHeader, header_bytes, header_len}
use Rattle.raft_env.specs.Outcomes.{File, Change, is_written, IsPartOf, changed_by, file_after_write, overlay, synced_of, renamed_of, resized_change, lengthened_change, written_change}
use Rattle.raft_env.specs.Directory.{Directory, Path, HasFile, file_at, without_file, after_rename, after_rename_at}
use Rattle.raft_files.specs.Scan.{PlacedRecord, ScanResult, scan_file, records_of, readable_records}
use Rattle.raft_files.specs.Detectable.{signature_by, AreFresh, IsFreshAfter}
use Rattle.raft_files.specs.Records.{AreReadAt, IsUntriedAfter, HoldsRecords, IsWrittenTo, RecoversNoRecord, RecoversPrefixAt, HasLog}
use Rattle.raft_files.specs.Writer.{HasChanged, IsStep, IsLengthened, IsAppending, IsAppended, IsSynced}
use Rattle.raft_env.proofs.DirectoryLemmas.{file_at-placed_same}
use Rattle.raft_env.proofs.OutcomesOverlayLemmas.{overlaid_is}
use Rattle.raft_files.proofs.HeaderLemmas.{length-header_bytes}
use Rattle.raft_files.proofs.ScanExtentLemmas.{same_some}
use Rattle.raft_files.proofs.ScanLemmas.{reading-header_bytes, reading_is, records_stay}
use Rattle.raft_files.proofs.DetectableStaleLemmas.{GivesNoneFrom, ungiven, refused_gives_none, gives_none_before, stale_from_more, untried_not_fresh}
use Rattle.raft_files.proofs.ScanPlacedLemmas.{placed_stands}
use Rattle.raft_files.proofs.RecordsFreshLemmas.{header_len_within}
use Rattle.raft_files.proofs.RecordsHeldLemmas.{read_of_held}
use Rattle.raft_files.proofs.RecordsSyncLemmas.{written_to_still}
use Rattle.raft_files.proofs.RecordsNoneLemmas.{none_more}
use Rattle.raft_files.proofs.WriterChangeLemmas.{stands_after, was_file}

-- where no write has begun no record is fresh
nothing_fresh : (by renamed_after : Option ℕ) (changes : List Change) (left : List PlacedRecord) → ((i : ℕ) → IsUntriedAfter renamed_after changes i) → AreFresh by renamed_after changes left → left ≡ []
nothing_fresh by renamed_after changes [] untried fresh = refl
nothing_fresh by renamed_after changes (r ∷ left) untried fresh = absurd (untried_not_fresh by renamed_after changes r (untried r.at) (fresh r (0, omega arith, refl)))

-- a file of which a crash leaves no record, of which each place is stale, and to which no write was made
pub record KeepsStale (id : FileId) (file : File) : Type 0 where
  pub none : RecoversNoRecord id file
  pub stale : (i : ℕ) → IsUntriedAfter file.renamed_after (file.changes ++ file.older) i

-- such is a file that was just renamed, at each moment since its last sync
pub renamed_stale : (id : FileId) (file : File) → KeepsStale id (renamed_of file)
renamed_stale id file = record {
  none = record {
    now = λ format left read. nothing_fresh (signature_by id format) _ (file.changes ++ file.older) left (stale [] file.changes refl) read.fresh;
    moments = λ newer upto e format left read. nothing_fresh (signature_by id format) _ (upto ++ file.older) left (stale newer upto e) read.fresh;
  };
  stale = stale [] file.changes refl;
}
  where
    count : ℕ
    count = length (file.changes ++ file.older)

    stale : (newer upto : List Change) → file.changes ≡ newer ++ upto → (i : ℕ) → IsUntriedAfter (Some count) (upto ++ file.older) i
    stale newer upto e i =
        let all : count ≡ length newer + length upto + length file.older =
        omega (arith, length-append file.changes file.older, ap length e, length-append newer upto) in
        let before : length (upto ++ file.older) - count ≡ 0 = omega (arith, all, length-append upto file.older) in (
          (count, refl, subst (λ n. is_written (take n (upto ++ file.older)) i ≡ false) (sym before) refl),
          λ other is c has stands.
              let none : Contains [] c = subst (λ n. Contains (take n (upto ++ file.older)) c) (ap (λ k. length (upto ++ file.older) - k) (sym (same_some is)) ∙ before) has in
              absurd (omega (arith, none.1)),
        )

-- .. and after a change that gives no byte
stale_change : (id : FileId) (file : File) (c : Change) → KeepsStale id file → GivesNoneFrom 0 c → KeepsStale id (changed_by c file)
stale_change id file c old none =
    let past = file.changes ++ file.older in
    let stale : (i : ℕ) → IsUntriedAfter file.renamed_after (c ∷ past) i = λ i. stale_from_more file.renamed_after c past 0 0 none (omega arith) (λ k above. old.stale k) i (omega arith) in
    record { none = none_more id file c old.none (λ format left read. nothing_fresh (signature_by id format) file.renamed_after (c ∷ past) left stale read.fresh); stale = stale }

stale_lengthened : (id : FileId) (room new_room : ℕ) (old new : File) → KeepsStale id old → IsLengthened room new_room old new → KeepsStale id new
stale_lengthened id room new_room old new keeps (inl same) = subst (KeepsStale id) (sym same) keeps
stale_lengthened id room new_room old new keeps (inr (grows, inl same)) = subst (KeepsStale id) (sym same) keeps
stale_lengthened id room new_room old new keeps (inr (grows, inr (after, true, completed, is))) =
    let c = resized_change after old.now in
    subst (KeepsStale id) (sym is) (stale_change id old c keeps (ungiven 0 c refl))
stale_lengthened id room new_room old new keeps (inr (grows, inr (after, false, part, is))) =
    let c = lengthened_change new_room false after old.now in
    subst (KeepsStale id) (sym is) (stale_change id old c keeps (ungiven 0 c refl))

-- a record that is read stands after a header
read_further : (id : FileId) (bytes : List ℕ) (r : PlacedRecord) → Contains (readable_records id bytes) r → 1 ≤ r.at
read_further id bytes r = by_reading (scan_file id bytes) refl
  where
    by_reading : (read : Option ScanResult) → scan_file id bytes ≡ read → Contains (records_of read) r → 1 ≤ r.at
    by_reading None e has = absurd (omega (arith, has.1))
    by_reading (Some q) e has =
        let stands = placed_stands (records_stay id q.format bytes) (length bytes) (header_len q.format.version) q.records (sym (reading_is id bytes q e).records) r has in
        omega (arith, stands.behind, (header_len_within q.format.version).0)

-- .. so a failed write at the front of such a file was to bring none
nothing_at_front : (id : FileId) (by : Option ℕ) (file : File) (c : Change) → KeepsStale id file → c.is_done ≡ false → c.from ≡ 0 → (left : List PlacedRecord) → AreReadAt id by c.after file.renamed_after (c ∷ file.changes ++ file.older) left → left ≡ []
nothing_at_front id by file c keeps refused front [] read = refl
nothing_at_front id by file c keeps refused front (r ∷ left) read =
    let past = file.changes ++ file.older in
    let first : Contains (r ∷ left) r = (0, omega arith, refl) in
    let further = read_further id c.after r (subst (λ rs. Contains rs r) (sym read.prefix.1) (0, omega arith, refl)) in
    let gives = refused_gives_none 1 c refused (omega (arith, front)) in
    absurd (untried_not_fresh by file.renamed_after (c ∷ past) r (stale_from_more file.renamed_after c past 1 1 gives (omega arith) (λ i above. keeps.stale i) r.at further) (read.fresh r first))

-- A header over what such a file holds.

module _ (id : FileId) (format : LogFileFormat) (has : HasHeader format) (fits : format.alignment < 2 ^ 64) where
  abbrev header : List ℕ
  header = header_bytes format

  abbrev end : ℕ
  end = header_len format.version

  header_length : length header ≡ end
  header_length = length-header_bytes format.version format.alignment

  -- the bytes hold the header and no record before its end
  holds_header : (old : List ℕ) → HoldsRecords id format [] end (overlay old 0 header)
  holds_header old =
      let front : take end (overlay old 0 header) ≡ header = ap (λ b. take end b) (overlaid_is old 0 header (inl (omega arith))) ∙ take_at header _ end header_length in
      record {
        within = omega (arith, header_length, ap length front, length-take end (overlay old 0 header));
        read = ap (λ b. scan_file id b) front ∙ reading-header_bytes id format has fits ∙ ap (λ n. Some (record { format = format; records = []; end = n })) header_length;
      }

  module _ (file : File) (keeps : KeepsStale id file) where
    abbrev c : Change
    c = written_change 0 header true (overlay file.now 0 header) file.now

    abbrev past : List Change
    past = file.changes ++ file.older

    stale_after : (i : ℕ) → end ≤ i → IsUntriedAfter file.renamed_after (c ∷ past) i
    stale_after = stale_from_more file.renamed_after c past 0 end (gives_none_before end c (omega (arith, header_length))) (omega arith) (λ k above. keeps.stale k)

    -- no record that is read after the header is fresh
    nothing_after : (by : Option ℕ) (r : PlacedRecord) → Contains (readable_records id c.after) r → IsFreshAfter by file.renamed_after (c ∷ past) r → ⊥
    nothing_after by r has fresh = elim (read_of_held id format [] end c.after (holds_header file.now) r has) [
      | inl none ↦ absurd (omega (arith, none.1))
      | inr behind ↦ untried_not_fresh by file.renamed_after (c ∷ past) r (stale_after r.at behind) fresh
    ]

    nothing_left : (by : Option ℕ) (left : List PlacedRecord) → AreReadAt id by c.after file.renamed_after (c ∷ past) left → left ≡ []
    nothing_left by [] read = refl
    nothing_left by (r ∷ left) read =
        absurd (nothing_after by r (subst (λ rs. Contains rs r) (sym read.prefix.1) (0, omega arith, refl)) (read.fresh r (0, omega arith, refl)))

    pub none_headed : RecoversNoRecord id (changed_by c file)
    none_headed = none_more id file c keeps.none (λ other left read. nothing_left (signature_by id other) left read)

    -- once the header is synced the file is a log without records
    pub written_headed : IsWrittenTo id format [] 0 end (synced_of (changed_by c file))
    written_headed = written_to_still id format [] end c.after (c ∷ past) file.renamed_after (holds_header file.now) (inr stale_after) (λ by r has behind completed fresh. nothing_after by r has fresh)

  header_moment : (old new : File) → KeepsStale id old → IsStep (file_after_write 0 header) (λ now. overlay now 0 header) (IsPartOf 0 (length header)) old new → RecoversNoRecord id new
  header_moment old new keeps (inl same) = subst (RecoversNoRecord id) (sym same) keeps.none
  header_moment old new keeps (inr (after, true, completed, is)) =
      subst (RecoversNoRecord id) (sym is) (subst (λ b. RecoversNoRecord id (file_after_write 0 header true b old)) (sym completed) (none_headed old keeps))
  header_moment old new keeps (inr (after, false, part, is)) =
      let c = written_change 0 header false after old.now in
      subst (RecoversNoRecord id) (sym is) (none_more id old c keeps.none (λ other left read. nothing_at_front id (signature_by id other) old c keeps refl refl left read))

  pub none_reusing : (room new_room : ℕ) (old new : File) → KeepsStale id old → IsAppending room new_room 0 header old new → RecoversNoRecord id new
  none_reusing room new_room old new keeps (mid, longer, writes) = header_moment mid new (stale_lengthened id room new_room old mid keeps longer) writes

  pub written_reused : (room new_room : ℕ) (old mid new : File) → KeepsStale id old → IsAppended room new_room 0 header old mid → IsSynced mid new → IsWrittenTo id format [] 0 end new
  written_reused room new_room old mid new keeps (longer_file, longer, wrote) is =
      let headed = written_headed longer_file (stale_lengthened id room new_room old longer_file keeps longer) in
      subst (IsWrittenTo id format [] 0 end) (sym (is ∙ ap synced_of wrote)) headed

-- At a path.

module _ (src path : Path) (old : Directory) (has : HasFile old src) where
  record IsRenamedFrom : Type 0 where
    file : File
    stood : file_at old src ≡ Some file

  renamed_file : IsRenamedFrom
  renamed_file = by_file (file_at old src) refl has
    where
      by_file : (found : Option File) → file_at old src ≡ found → IsSome found → IsRenamedFrom
      by_file None e none = absurd cc
      by_file (Some file) e some = record { file = file; stood = e }

  stands_renamed : file_at (after_rename src path old) path ≡ Some (renamed_of renamed_file.file)
  stands_renamed =
      ap (λ found. file_at (after_rename_at src path found old) path) renamed_file.stood
      ∙ file_at-placed_same path (renamed_of renamed_file.file) (without_file src old)

  pub kept_renamed : (id : FileId) → RecoversPrefixAt path id [] 0 (after_rename src path old)
  kept_renamed id = inr (λ file stands. subst (RecoversNoRecord id) (same_some (sym stands_renamed ∙ stands)) (renamed_stale id renamed_file.file).none, refl)

  module _ (id : FileId) (format : LogFileFormat) (room new_room : ℕ) (header_fits : HasHeader format) (fits : format.alignment < 2 ^ 64) where
    pub kept_reusing : (new : Directory) → HasChanged path (IsAppending room new_room 0 (header_bytes format)) (after_rename src path old) new → RecoversPrefixAt path id [] 0 new
    kept_reusing new change =
        let R = IsAppending room new_room 0 (header_bytes format) in
        let how = was_file path (after_rename src path old) new R change (renamed_of renamed_file.file) stands_renamed in
        let none = none_reusing id format header_fits fits room new_room (renamed_of renamed_file.file) change.after (renamed_stale id renamed_file.file) how in
        inr (λ file stands. subst (RecoversNoRecord id) (same_some (sym (stands_after path (after_rename src path old) new R change) ∙ stands)) none, refl)

    pub log_reused : (mid new : Directory) → HasChanged path (IsAppended room new_room 0 (header_bytes format)) (after_rename src path old) mid → HasChanged path IsSynced mid new → HasLog path id format [] 0 (header_len format.version) new
    log_reused mid new first change =
        let R = IsAppended room new_room 0 (header_bytes format) in
        let how = was_file path (after_rename src path old) mid R first (renamed_of renamed_file.file) stands_renamed in
        let then = was_file path mid new IsSynced change first.after (stands_after path (after_rename src path old) mid R first) in
        record {
          file = change.after;
          stands = stands_after path mid new IsSynced change;
          records = [];
          holds = refl;
          written = written_reused id format header_fits fits room new_room (renamed_of renamed_file.file) first.after change.after (renamed_stale id renamed_file.file) how then;
        }
