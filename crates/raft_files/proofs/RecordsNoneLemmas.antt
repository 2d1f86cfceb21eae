-- Files of which a crash leaves no record.
use Rattle.std.proofs.Common.{◌≡◌, ◌⊎◌, ℕ, ◌≤◌, List, [], ◌∷◌, ◌++◌, length, Option, Some, None, map, refl, ap, sym, subst, ◌∙◌, inl, inr, arith, ltb}
use Rattle.std.proofs.lemmas.Bool.{cases_Bool}
use Rattle.raft_base.specs.declared.pipe_log.FileId.{FileId}
use Rattle.raft_files.specs.declared.format.LogFileFormat.{LogFileFormat}
use Rattle.raft_files.specs.Header.{header_bytes, header_len}
use Rattle.raft_env.specs.Outcomes.{File, Change, IsPartOf, overlay, file_after_write, changed_by, synced_of, synced_file, bytes_after, lengthened_change, written_change}
use Rattle.raft_files.specs.Scan.{PlacedRecord, readable_records, readable_batches}
use Rattle.raft_files.specs.Detectable.{IsPrefixOf, format_of, signature_by, IsDetectableFile}
use Rattle.raft_files.specs.Records.{AreReadAt, AreReadAfter, RecoversNoRecord}
use Rattle.raft_files.specs.Writer.{IsStep, IsLengthened, IsAppending, capacity_for}
use Rattle.raft_files.proofs.HeaderLemmas.{length-header_bytes}
use Rattle.raft_files.proofs.RecordsLemmas.{AtEachMoment, moments_more, readable_without_header}
use Rattle.raft_files.proofs.WriterPartLemmas.{lengthened_part, write_part}
use Rattle.raft_files.proofs.RecordsFreshLemmas.{header_len_within, readable_records-short}

-- what a crash then leaves has no batch
pub none_left : (id : FileId) (file : File) (left : List ℕ) → RecoversNoRecord id file → IsDetectableFile id file left → readable_batches id left ≡ []
none_left id file left none detectable = ap (λ rs. map (λ (p : PlacedRecord). p.batch) rs) (by_format (format_of left) refl)
  where
    by_format : (format : Option LogFileFormat) → format_of left ≡ format → readable_records id left ≡ []
    by_format None e = readable_without_header id left e
    by_format (Some format) e = none.moments detectable.newer detectable.upto detectable.moment format (readable_records id left) (record { prefix = detectable.prefix; completed = detectable.completed format e; fresh = detectable.none_stale format e })

-- the same bytes under an equal name
pub read_of_bytes : {id : FileId} {signature : Option ℕ} {a b : List ℕ} {renamed : Option ℕ} {changes : List Change} {left : List PlacedRecord} → a ≡ b → AreReadAt id signature a renamed changes left → AreReadAt id signature b renamed changes left
read_of_bytes {id = id} {left = left} same read = record { prefix = subst (λ bytes. IsPrefixOf left (readable_records id bytes)) same read.prefix; completed = read.completed; fresh = read.fresh }

pub nothing_of : (rs left : List PlacedRecord) → rs ≡ [] → IsPrefixOf left rs → left ≡ []
nothing_of rs [] none begins = refl
nothing_of rs (r ∷ left) none begins = let e : [] ≡ r ∷ (left ++ begins.0) = sym none ∙ begins.1 in absurd cc

-- Files without a change since the last sync.

-- they have one moment
pub only_moment : (P : List Change → Type 0) → P [] → (newer upto : List Change) → [] ≡ newer ++ upto → P upto
only_moment P holds [] [] e = holds
only_moment P holds [] (c ∷ upto) e = cc
only_moment P holds (c ∷ newer) upto e = cc

pub none_settled : (id : FileId) (bytes : List ℕ) → readable_records id bytes ≡ [] → RecoversNoRecord id (synced_file bytes)
none_settled id bytes none = record {
  now = λ format left read. nothing_of _ left none read.prefix;
  moments = λ newer upto e format left read. nothing_of _ left (only_moment (λ changes. readable_records id (bytes_after bytes changes) ≡ []) none newer upto e) read.prefix;
}

pub moments_synced : (P : List PlacedRecord → Type 0) (id : FileId) (by : Option ℕ) (file : File) → file.now ≡ bytes_after file.synced file.changes → AtEachMoment P id by file → AtEachMoment P id by (synced_of file)
moments_synced P id by file latest before = only_moment (λ upto. (left : List PlacedRecord) → AreReadAfter id by (synced_of file) upto left → P left) (λ left read. before [] file.changes refl left (read_of_bytes latest read))

pub none_synced : (id : FileId) (file : File) → RecoversNoRecord id file → RecoversNoRecord id (synced_of file)
none_synced id file none = record {
  now = none.now;
  moments = λ newer upto e format. only_moment (λ changes. (left : List PlacedRecord) → AreReadAfter id (signature_by id format) (synced_of file) changes left → left ≡ []) (none.now format) newer upto e;
}

-- Changes.

pub none_more : (id : FileId) (file : File) (c : Change) → RecoversNoRecord id file →
    ((format : LogFileFormat) (left : List PlacedRecord) → AreReadAt id (signature_by id format) c.after file.renamed_after (c ∷ file.changes ++ file.older) left → left ≡ []) → RecoversNoRecord id (changed_by c file)
none_more id file c none moment = record {
  now = moment;
  moments = λ newer upto e format. moments_more (λ left. left ≡ []) id (signature_by id format) file c (λ newer upto e left. none.moments newer upto e format left) (moment format) newer upto e;
}

-- a file that has no room for a record once it has one change more
none_short : (id : FileId) (old new : File) → RecoversNoRecord id old → length new.now ≤ 69 → (new ≡ old) ⊎ ((c : Change) × (new ≡ changed_by c old)) → RecoversNoRecord id new
none_short id old new none short (inl same) = subst (RecoversNoRecord id) (sym same) none
none_short id old new none short (inr (c, is)) =
    subst (RecoversNoRecord id) (sym is) (none_more id old c none (λ format left read. nothing_of _ left (readable_records-short id c.after (omega (arith, short, ap (λ (f : File). length f.now) is))) read.prefix))

room_of_header : (format : LogFileFormat) (size : ℕ) → size ≤ header_len format.version → capacity_for (header_len format.version) 0 size ≤ 69
room_of_header format size within = elim (cases_Bool (ltb size (header_len format.version))) [
  | inl less ↦ rw less (omega (arith, (header_len_within format.version).1))
  | inr more ↦ rw more (omega (arith, (header_len_within format.version).1))
]

-- a moment of the writing of a header into a file that is no longer than that
pub none_appending : (id : FileId) (format : LogFileFormat) (old new : File) → length old.now ≤ header_len format.version → RecoversNoRecord id old →
    IsAppending (length old.now) (capacity_for (header_len format.version) 0 (length old.now)) 0 (header_bytes format) old new → RecoversNoRecord id new
none_appending id format old new within none how =
    let len : length (header_bytes format) ≡ header_len format.version = length-header_bytes format.version format.alignment in
    let room = capacity_for (header_len format.version) 0 (length old.now) in
    let fits = room_of_header format (length old.now) within in
    let first = lengthened_part (length old.now) room old how.0 how.1 in
    let part = write_part 0 (header_bytes format) how.0 new how.2 in
    let most = (header_len_within format.version).1 in
    let mid = none_short id old how.0 none (omega (arith, first.no_longer, most)) (lengthened_once how.1) in
    none_short id how.0 new mid (omega (arith, first.no_longer, part.no_longer, len, most)) (written_once how.2)
  where
    lengthened_once : {room : ℕ} {mid : File} → IsLengthened (length old.now) room old mid → (mid ≡ old) ⊎ ((c : Change) × (mid ≡ changed_by c old))
    lengthened_once (inl same) = inl same
    lengthened_once (inr (grows, inl same)) = inl same
    lengthened_once {room} (inr (grows, inr (after, is_done, outcome, is))) = inr (lengthened_change room is_done after old.now, is)

    written_once : {mid : File} → IsStep (file_after_write 0 (header_bytes format)) (λ now. overlay now 0 (header_bytes format)) (IsPartOf 0 (length (header_bytes format))) mid new → (new ≡ mid) ⊎ ((c : Change) × (new ≡ changed_by c mid))
    written_once (inl same) = inl same
    written_once {mid} (inr (after, is_done, outcome, is)) = inr (written_change 0 (header_bytes format) is_done after mid.now, is)
