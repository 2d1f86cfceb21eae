-- The records that bytes hold up to a place, and what is read after them.
use Rattle.std.proofs.Common.{◌≡◌, ◌⊎◌, ℕ, ◌+◌, ◌≤◌, List, [], ◌∷◌, ◌++◌, length, take, Option, Some, Contains, refl, ap, sym, subst, ◌∙◌, inl, inr, arith, append_assoc}
use Rattle.std.specs.Prelude.{option_map}
use Rattle.std.proofs.lemmas.List.{append-nil, take-take}
use Rattle.std.proofs.lemmas.List.Elements.{Contains-append_left, Contains-append_right, Contains-append_cases}
use Rattle.raft_base.specs.declared.pipe_log.FileId.{FileId}
use Rattle.raft_files.specs.declared.format.LogFileFormat.{LogFileFormat}
use Rattle.raft_files.specs.Header.{header_len}
use Rattle.raft_env.specs.Outcomes.{Change}
use Rattle.raft_files.specs.Scan.{PlacedRecord, next_record, end_of_records, ScanResult, records_after, scan_file, records_of, readable_records}
use Rattle.raft_files.specs.Detectable.{IsPrefixOf, format_of, IsFromCompletedCall, IsFreshAfter}
use Rattle.raft_files.specs.Records.{AreReadAt, HasNothingFrom, HoldsRecords}
use Rattle.raft_files.proofs.DetectableLemmas.{prefix_trans, prefix_append, prefix_split}
use Rattle.raft_files.proofs.ScanLemmas.{records_stay, reading_is, reading-kept}
use Rattle.raft_files.proofs.ScanPlacedLemmas.{first_placed, contains_cases, placed_stands}

pub end_of_held : (id : FileId) (format : LogFileFormat) (records : List PlacedRecord) (at : ℕ) (bytes : List ℕ) → HoldsRecords id format records at bytes → end_of_records (header_len format.version) records ≡ at
end_of_held id format records at bytes holds = sym ((reading_is id (take at bytes) (record { format = format; records = records; end = at }) holds.read).end)

-- the records that bytes hold come first in what is read of them
pub reading-held : (id : FileId) (format : LogFileFormat) (records : List PlacedRecord) (at : ℕ) (bytes : List ℕ) → HoldsRecords id format records at bytes →
    let behind = records_after id format bytes at in
    scan_file id bytes ≡ Some (record { format = format; records = records ++ behind; end = end_of_records at behind })
reading-held id format records at bytes holds =
    let r : ScanResult = record { format = format; records = records; end = at } in
    let end = end_of_held id format records at bytes holds in
    reading-kept id at (take at bytes) bytes r records [] (take-take at at bytes (omega arith)) holds.read (sym (append-nil records)) (omega arith)
    ∙ ap (λ from. Some (record { format = format; records = records ++ records_after id format bytes from; end = end_of_records from (records_after id format bytes from) })) end

pub readable-held : (id : FileId) (format : LogFileFormat) (records : List PlacedRecord) (at : ℕ) (bytes : List ℕ) → HoldsRecords id format records at bytes → readable_records id bytes ≡ records ++ records_after id format bytes at
readable-held id format records at bytes holds = ap (λ read. records_of read) (reading-held id format records at bytes holds)

pub format_of_read : (id : FileId) (bytes : List ℕ) (r : ScanResult) → scan_file id bytes ≡ Some r → format_of bytes ≡ Some r.format
format_of_read id bytes r e = ap (λ header. option_map (λ (h : LogFileFormat × List ℕ). h.0) header) ((reading_is id bytes r e).header)

pub format_of-held : (id : FileId) (format : LogFileFormat) (records : List PlacedRecord) (at : ℕ) (bytes : List ℕ) → HoldsRecords id format records at bytes → format_of bytes ≡ Some format
format_of-held id format records at bytes holds = format_of_read id bytes _ (reading-held id format records at bytes holds)

-- what is read after them is read of the whole file, and stands after them
in_after : (id : FileId) (format : LogFileFormat) (records : List PlacedRecord) (at : ℕ) (bytes : List ℕ) → HoldsRecords id format records at bytes →
    (r : PlacedRecord) → Contains (records_after id format bytes at) r → Contains (readable_records id bytes) r × (at ≤ r.at)
in_after id format records at bytes holds r has =
    let behind = records_after id format bytes at in (
      subst (λ all. Contains all r) (sym (readable-held id format records at bytes holds)) (Contains-append_right records behind r has),
      (placed_stands (records_stay id format bytes) (length bytes) at behind refl r has).behind,
    )

-- what is read is one of them or stands after them
pub read_of_held : (id : FileId) (format : LogFileFormat) (records : List PlacedRecord) (at : ℕ) (bytes : List ℕ) → HoldsRecords id format records at bytes →
    (r : PlacedRecord) → Contains (readable_records id bytes) r → Contains records r ⊎ (at ≤ r.at)
read_of_held id format records at bytes holds r has =
    let behind = records_after id format bytes at in
    elim (Contains-append_cases records behind r (subst (λ all. Contains all r) (readable-held id format records at bytes holds) has)) [
      | inl inside ↦ inl inside
      | inr further ↦ inr (in_after id format records at bytes holds r further).1
    ]

-- each of them ends before the place
pub ends_in_held : (id : FileId) (format : LogFileFormat) (records : List PlacedRecord) (at : ℕ) (bytes : List ℕ) → HoldsRecords id format records at bytes → (r : PlacedRecord) → Contains records r → r.at + r.len ≤ at
ends_in_held id format records at bytes holds r has =
    let front = take at bytes in
    let is = reading_is id front (record { format = format; records = records; end = at }) holds.read in
    let stands = placed_stands (records_stay id format front) (length front) (header_len format.version) records (sym is.records) r has in
    omega (arith, stands.before, is.end)

only_one : (rs : List PlacedRecord) (r : PlacedRecord) → length rs ≤ 1 → Contains rs r → rs ≡ r ∷ []
only_one [] r few has = absurd (omega (arith, has.1))
only_one (x ∷ []) r few has = elim (contains_cases x r [] has) [
  | inl same ↦ ap (λ p. p ∷ []) same
  | inr none ↦ absurd (omega (arith, none.1))
]
only_one (x ∷ y ∷ rs) r few has = absurd (omega (arith, few))

-- where all that is read is among at most one record, no second is read
prefix_of_one : (id : FileId) (format : LogFileFormat) (bytes : List ℕ) (at : ℕ) (left others : List PlacedRecord) → length others ≤ 1 → IsPrefixOf left (records_after id format bytes at) → ((r : PlacedRecord) → Contains left r → Contains others r) → IsPrefixOf left others
prefix_of_one id format bytes at [] others few begins among = (others, refl)
prefix_of_one id format bytes at (r ∷ []) others few begins among = ([], only_one others r few (among r (0, omega arith, refl)))
prefix_of_one id format bytes at (r ∷ q ∷ left) others few begins among =
    let stays = records_stay id format bytes in
    let further = q ∷ left ++ begins.0 in
    let first = first_placed (next_record id format bytes) (length bytes) at r further begins.1 in
    let second = placed_stands stays first.limit (r.at + r.len) further (sym first.others) q (0, omega arith, refl) in
    let both : r ∷ [] ≡ q ∷ [] = sym (only_one others r few (among r (0, omega arith, refl))) ∙ only_one others q few (among q (1, omega arith, refl)) in
    let same : r ≡ q = cc (both) in
    absurd (omega (arith, stays.found at r first.is, second.behind, ap (λ (p : PlacedRecord). p.at) same))

-- where at most one record is done after these, a crash leaves a prefix of all
pub left_of_torn : (id : FileId) (format : LogFileFormat) (by : Option ℕ) (records others : List PlacedRecord) (at : ℕ) (bytes : List ℕ) (renamed : Option ℕ) (changes : List Change) → HoldsRecords id format records at bytes → length others ≤ 1 →
    ((r : PlacedRecord) → Contains (readable_records id bytes) r → at ≤ r.at → IsFromCompletedCall id by changes r → IsFreshAfter by renamed changes r → Contains others r) →
    (left : List PlacedRecord) → AreReadAt id by bytes renamed changes left → IsPrefixOf left (records ++ others)
left_of_torn id format by records others at bytes renamed changes holds few only left read =
    let begins = read.prefix in
    let behind = records_after id format bytes at in
    elim (prefix_split left records behind (begins.0, sym (readable-held id format records at bytes holds) ∙ begins.1)) [
      | inl within ↦ prefix_trans left records (records ++ others) within (prefix_append records others)
      | inr further ↦
          let rest = further.0 in
          let among : (r : PlacedRecord) → Contains rest r → Contains others r = λ r has.
          let is = in_after id format records at bytes holds r (subst (λ all. Contains all r) (sym further.2.1) (Contains-append_left rest further.2.0 r has)) in
          let in_left = subst (λ all. Contains all r) (sym further.1) (Contains-append_right records rest r has) in
          only r is.0 is.1 (read.completed r in_left) (read.fresh r in_left) in
          let first : IsPrefixOf rest others = prefix_of_one id format bytes at rest others few further.2 among in
          (first.0, ap (λ rs. records ++ rs) first.1 ∙ sym (append_assoc records rest first.0) ∙ ap (λ rs. rs ++ first.0) (sym further.1))
    ]

-- .. and where none is done, a prefix of these
pub left_of_held : (id : FileId) (format : LogFileFormat) (by : Option ℕ) (records : List PlacedRecord) (at : ℕ) (bytes : List ℕ) (renamed : Option ℕ) (changes : List Change) → HoldsRecords id format records at bytes → HasNothingFrom id at bytes renamed changes →
    (left : List PlacedRecord) → AreReadAt id by bytes renamed changes left → IsPrefixOf left records
left_of_held id format by records at bytes renamed changes holds nothing left read =
    subst (IsPrefixOf left) (append-nil records) (left_of_torn id format by records [] at bytes renamed changes holds (omega arith) (λ r has behind is fresh. absurd (nothing by r has behind is fresh)) left read)
