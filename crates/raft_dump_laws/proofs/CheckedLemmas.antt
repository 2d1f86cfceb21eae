-- How an opening goes on where a check of a file's records ended.
use Rattle.std.proofs.Common.{◌≡◌, ◌⊎◌, ℕ, ◌+◌, ◌<◌, ◌^◌, Bool, true, false, cond, List, [], ◌∷◌, ◌++◌, length, drop, map, is_none, Option, Some, None, option_map, inl, inr, refl, sym, ◌∙◌, ap, subst}
use Rattle.std.specs.List.{take_while}
use Rattle.std.proofs.lemmas.Bool.{eq-eqb, lt-ltb}
use Rattle.std.proofs.lemmas.List.Sums.{take_while-cons}
use Rattle.raft_base.specs.FileId.{signature_in}
use Rattle.raft_base.specs.declared.errors.Fault.{Fault}
use Rattle.raft_base.specs.declared.errors.Fault.TheVariants as fault
use Rattle.raft_base.specs.declared.pipe_log.FileId.{FileId}
use Rattle.raft_records.specs.Item.{Batch}
use Rattle.raft_records.specs.ItemBatch.{record_refusal}
use Rattle.raft_records.specs.Layout.{entry_bytes}
use Rattle.raft_files.specs.Detectable.{HasCompressedAt, signature_by}
use Rattle.raft_files.specs.Header.{header_of}
use Rattle.raft_files.specs.RecordReader.{IsNext, RecordCursor, cursor_after_header, next_refusal, records_left, signature_of}
use Rattle.raft_files.specs.Scan.{PlacedRecord, ScanResult, end_of, end_of_records, end_of_scan, ends_with, is_read_to_end, next_record, record_place, records_of, scan_after_header, scan_file}
use Rattle.raft_files.specs.declared.format.LogFileFormat.{LogFileFormat}
use Rattle.raft_files.proofs.RecordReaderLemmas.{next_accepted, next_refused, readable_next}
use Rattle.raft_files.proofs.ScanExtentLemmas.{same_some}
use Rattle.raft_files.proofs.ScanLemmas.{found_record, reading_after_header}
use Rattle.raft_files.proofs.ScanPlacedLemmas.{first_placed}
use Rattle.raft_opening.specs.LogFile.{IsDamage}
use Rattle.raft_pipes.specs.LogFile.{IsOpenableLog, have_places}
use Rattle.raft_opening.specs.Open.{EndsScan}
use Rattle.raft_opening.proofs.OpenReplayLemmas.{IsReplaying, ends_in_broken, next_is_read, replay_continues, stuck_at_record, stuck_damaged, stuck_in_broken}
use Rattle.raft_dump.specs.Check.{EndsReading, IsReadFrom, IsReadIn, planned_stop, records_read}
use Rattle.raft_dump.specs.declared.check.FileCheck.{FileCheck}
use Rattle.raft_dump.specs.declared.plan.Planned.{Planned}
use Rattle.raft_dump.specs.declared.plan.Planned.TheVariants.{Cut, Fail}
use Rattle.raft_dump_laws.specs.Planned.{IsReadAs}

-- Records that a check reads, one after the other.

abbrev is_taken : RecordCursor → PlacedRecord → Bool
is_taken r p = is_none (record_refusal (signature_of r) (drop p.at r.bytes))

-- the first record stands where it is looked for
module _ (r : RecordCursor) (p : PlacedRecord) (ps : List PlacedRecord) (left : records_left r ≡ p ∷ ps) where
  first_found : next_record r.id r.format r.bytes r.at ≡ Some p
  first_found = (first_placed (next_record r.id r.format r.bytes) (length r.bytes) r.at p ps left).is

  place : p.at ≡ record_place r.format.alignment r.bytes r.at
  place = (found_record (signature_of r) r.bytes (record_place r.format.alignment r.bytes r.at) p first_found).stands

  abbrev behind : RecordCursor
  behind = record r { at = p.at + p.len }

  next : IsNext records_left r p.batch behind
  next = readable_next r p.at p.batch p.len place (found_record (signature_of r) r.bytes (record_place r.format.alignment r.bytes r.at) p first_found).is

  rest_left : records_left behind ≡ ps
  rest_left = let both : next.0 ∷ records_left behind ≡ p ∷ ps = sym next.2 ∙ left in cc

  read_first : (o : Option Fault) → next_refusal r ≡ o → records_read r ≡ cond (is_none o) (p ∷ take_while (is_taken r) ps) []
  read_first o is = ap (take_while (is_taken r)) left ∙ take_while-cons (is_taken r) p ps
      ∙ ap (λ (x : Option Fault). cond (is_none x) (p ∷ take_while (is_taken r) ps) []) (ap (λ (at : ℕ). record_refusal (signature_of r) (drop at r.bytes)) place ∙ is)

  read_accepted : next_refusal r ≡ None → records_read r ≡ p ∷ records_read behind
  read_accepted accepted = read_first None accepted ∙ ap (λ (qs : List PlacedRecord). p ∷ take_while (is_taken r) qs) (sym rest_left)

-- the cursor behind the records that are read
abbrev end_read : RecordCursor → RecordCursor
end_read r = record r { at = end_of_records r.at (records_read r) }

-- an opening comes to where a check does
pub record Arrives (id : FileId) (bytes : List ℕ) (r : RecordCursor) : Type 0 where
  pub completed : List Batch
  pub replaying : IsReplaying id bytes r completed

nothing_taken : (id : FileId) (bytes : List ℕ) (r : RecordCursor) (completed : List Batch) → IsReplaying id bytes r completed → records_read r ≡ [] → Arrives id bytes (end_read r)
nothing_taken id bytes r completed i none = record {
  completed = completed;
  replaying = subst (λ (ps : List PlacedRecord). IsReplaying id bytes (record r { at = end_of_records r.at ps }) completed) (sym none) i;
}

pub arrives : (id : FileId) (bytes : List ℕ) (r : RecordCursor) (completed : List Batch) (left : List PlacedRecord) → IsReplaying id bytes r completed → records_left r ≡ left → Arrives id bytes (end_read r)
arrives id bytes r completed [] i is = nothing_taken id bytes r completed i (ap (take_while (is_taken r)) is)
arrives id bytes r completed (p ∷ ps) i is = by_refusal (next_refusal r) refl (λ accepted.
    arrives id bytes (behind r p ps is) (completed ++ p.batch ∷ []) ps
    (replay_continues id bytes r (behind r p ps is) completed p.batch i (next r p ps is)
    (lt-ltb (length (entry_bytes p.batch)) (2 ^ 32) (next_accepted r (behind r p ps is) p.batch accepted (next r p ps is))))
    (rest_left r p ps is))
  where
    by_refusal : (o : Option Fault) → next_refusal r ≡ o → (next_refusal r ≡ None → Arrives id bytes (end_read (behind r p ps is))) → Arrives id bytes (end_read r)
    by_refusal None accepted on = subst (λ (qs : List PlacedRecord). Arrives id bytes (record r { at = end_of_records r.at qs })) (sym (read_accepted r p ps is accepted)) (on accepted)
    by_refusal (Some e) refused on = nothing_taken id bytes r completed i (read_first r p ps is (Some e) refused)

-- Where the reading ends.

module _ (id : FileId) (bytes : List ℕ) (r : RecordCursor) (a : Arrives id bytes r) where
  scanned : scan_file id bytes ≡ Some (scan_after_header id r.format bytes)
  scanned = reading_after_header id bytes r.format a.replaying.header.0 a.replaying.header.1

  ends_there : records_left r ≡ [] → end_of_scan id bytes ≡ r.at
  ends_there none = a.replaying.end ∙ ap (end_of_records r.at) none

  -- the mark at the end of the reading is the one where it stands
  mark_there : records_left r ≡ [] → (q : ScanResult) → scan_file id bytes ≡ Some q → HasCompressedAt (signature_by id q.format) bytes (record_place q.format.alignment bytes q.end) → HasCompressedAt (signature_of r) r.bytes (record_place r.format.alignment r.bytes r.at)
  mark_there none q read mark =
      let same : q ≡ scan_after_header id r.format bytes = same_some (sym read ∙ scanned) in
      let at : (scan_after_header id r.format bytes).end ≡ r.at = sym (ap end_of scanned) ∙ ends_there none in
      let here = subst (λ (x : ScanResult). HasCompressedAt (signature_by id x.format) bytes (record_place x.format.alignment bytes x.end)) same mark in
      let there = subst (λ (k : ℕ). HasCompressedAt (signature_by id r.format) bytes (record_place r.format.alignment bytes k)) at here in
      subst (λ (i : FileId). HasCompressedAt (signature_in r.format.version i.seq) r.bytes (record_place r.format.alignment r.bytes r.at)) (sym a.replaying.id_is)
      (subst (λ (b : List ℕ). HasCompressedAt (signature_by id r.format) b (record_place r.format.alignment b r.at)) (sym a.replaying.bytes_is) there)

  to_end : records_left r ≡ [] → r.at ≡ length r.bytes → is_read_to_end id bytes ≡ true
  to_end none at =
      let end : (scan_after_header id r.format bytes).end ≡ length bytes = sym (ap end_of scanned) ∙ ends_there none ∙ at ∙ ap (λ (b : List ℕ). length b) a.replaying.bytes_is in
      ap (ends_with (length bytes)) scanned ∙ eq-eqb (scan_after_header id r.format bytes).end (length bytes) end

  openable : (is_tolerant : Bool) → EndsScan is_tolerant r → IsOpenableLog id is_tolerant bytes
  openable is_tolerant ends = record {
    places = a.replaying.places ∙ ap (λ (ps : List PlacedRecord). have_places (map (λ (p : PlacedRecord). p.batch) ps)) ends.none;
    unmarked = λ q read mark. ends.unmarked (mark_there ends.none q read mark);
    whole = λ strict. to_end ends.none (ends.whole strict);
  }

-- What is planned of a file.

-- an opening finds it so
abbrev pub Finds : FileId → Bool → List ℕ → Planned → Type 0
Finds id is_tolerant bytes p = IsOpenableLog id is_tolerant bytes × IsReadAs id bytes p

-- .. or it fails for what the file holds
abbrev pub Breaks : FileId → Bool → List ℕ → Planned → Type 0
Breaks id is_tolerant bytes p = (p ≡ Fail) × (e : Fault) × IsDamage id is_tolerant bytes e

abbrev pub IsJudged : FileId → Bool → List ℕ → Planned → Type 0
IsJudged id is_tolerant bytes p = Finds id is_tolerant bytes p ⊎ Breaks id is_tolerant bytes p

module _ (id : FileId) (is_tolerant : Bool) (bytes : List ℕ) (r : RecordCursor) (a : Arrives id bytes r) where
  judged_broken : (t : Bool) → is_tolerant ≡ t → (r.at < length r.bytes) × (next_refusal r ≡ Some fault.Corruption) → IsJudged id is_tolerant bytes (cond t (Cut r.at) Fail)
  judged_broken true tolerant ends =
      let scan = ends_in_broken is_tolerant r tolerant ends in
      inl (openable id bytes r a is_tolerant scan, sym (ends_there id bytes r a scan.none))
  judged_broken false strict ends =
      inr (refl, fault.Corruption, stuck_damaged id is_tolerant bytes r a.completed fault.Corruption a.replaying (stuck_in_broken is_tolerant r strict ends))

  judged_barred : (e : Fault) → (e ≡ fault.Corruption → ⊥) → (r.at < length r.bytes) × (next_refusal r ≡ Some e) → Breaks id is_tolerant bytes Fail
  judged_barred e unbroken ends = (refl, e, stuck_damaged id is_tolerant bytes r a.completed e a.replaying (stuck_at_record is_tolerant r e unbroken ends))

  judged_end : (stop : Option Fault) → EndsReading r stop → IsJudged id is_tolerant bytes (planned_stop is_tolerant r.at stop)
  judged_end None ends =
      let scan : EndsScan is_tolerant r = (next_is_read is_tolerant r r None (ends, refl)).0 in
      inl (openable id bytes r a is_tolerant scan, to_end id bytes r a scan.none ends)
  judged_end (Some e) ends = elim (next_refused r e ends.1) [
    | inl broken ↦ subst (λ (x : Fault). IsJudged id is_tolerant bytes (planned_stop is_tolerant r.at (Some x))) (sym broken.0)
        (judged_broken is_tolerant refl (ends.0, ends.1 ∙ ap (λ (x : Fault). Some x) broken.0))
    | inr (inl compressed) ↦ subst (λ (x : Fault). IsJudged id is_tolerant bytes (planned_stop is_tolerant r.at (Some x))) (sym compressed.0)
        (inr (judged_barred e (λ is. let both : fault.Lz4 ≡ fault.Corruption = sym compressed.0 ∙ is in cc) ends))
    | inr (inr large) ↦ subst (λ (x : Fault). IsJudged id is_tolerant bytes (planned_stop is_tolerant r.at (Some x))) (sym large.0)
        (inr (judged_barred e (λ is. let both : fault.Range ≡ fault.Corruption = sym large.0 ∙ is in cc) ends))
  ]

-- after a header
begun : (id : FileId) (format : LogFileFormat) (bytes rest : List ℕ) → header_of bytes ≡ Some (format, rest) → IsReplaying id bytes (cursor_after_header id format bytes) []
begun id format bytes rest header =
    let read = reading_after_header id bytes format rest header in
    record {
      id_is = refl;
      bytes_is = refl;
      header = (rest, header);
      end = ap end_of read;
      places = ap (λ q. have_places (map (λ (p : PlacedRecord). p.batch) (records_of q))) read;
      batches = ap (λ q. map (λ (p : PlacedRecord). p.batch) (records_of q)) read;
    }

judged_read : (id : FileId) (is_tolerant : Bool) (format : LogFileFormat) (bytes rest : List ℕ) (c : FileCheck) → header_of bytes ≡ Some (format, rest) → IsReadFrom (cursor_after_header id format bytes) c → IsJudged id is_tolerant bytes (planned_stop is_tolerant c.end c.stop)
judged_read id is_tolerant format bytes rest c header read =
    let r = cursor_after_header id format bytes in
    let a = subst (λ (k : ℕ). Arrives id bytes (record r { at = k })) (sym read.end) (arrives id bytes r [] (records_left r) (begun id format bytes rest header) refl) in
    judged_end id is_tolerant bytes (record r { at = c.end }) a c.stop read.stop

-- without one
judged_unread : (id : FileId) (is_tolerant : Bool) (bytes : List ℕ) → scan_file id bytes ≡ None → (t : Bool) → is_tolerant ≡ t → IsJudged id is_tolerant bytes (cond t (Cut 0) Fail)
judged_unread id is_tolerant bytes unread true tolerant = inl (
  record {
    places = ap (λ q. have_places (map (λ (p : PlacedRecord). p.batch) (records_of q))) unread;
    unmarked = λ q read mark. let both : Some q ≡ None = sym read ∙ unread in cc;
    whole = λ strict. let both : true ≡ false = sym tolerant ∙ strict in cc;
  },
  sym (ap end_of unread),
)
judged_unread id is_tolerant bytes unread false strict = inr (
  refl,
  fault.Corruption,
  (
    ap (λ q. have_places (map (λ (p : PlacedRecord). p.batch) (records_of q))) unread,
    λ log. let both : false ≡ true = sym (ap (ends_with (length bytes)) unread) ∙ log.whole strict in cc,
    λ c. let both : Some c.read ≡ None = sym c.is_read ∙ unread in cc,
  ),
)

pub judged_in : (id : FileId) (is_tolerant : Bool) (bytes : List ℕ) (header : Option (LogFileFormat × List ℕ)) (c : FileCheck) → header_of bytes ≡ header → IsReadIn id bytes header c → IsJudged id is_tolerant bytes (planned_stop is_tolerant c.end c.stop)
judged_in id is_tolerant bytes None c none read =
    let unread : scan_file id bytes ≡ None = ap (option_map (λ (h : LogFileFormat × List ℕ). scan_after_header id h.0 bytes)) none in
    subst (λ (stop : Option Fault). IsJudged id is_tolerant bytes (planned_stop is_tolerant c.end stop)) (sym read.2)
    (subst (λ (k : ℕ). IsJudged id is_tolerant bytes (planned_stop is_tolerant k (Some fault.Corruption))) (sym read.1)
    (judged_unread id is_tolerant bytes unread is_tolerant refl))
judged_in id is_tolerant bytes (Some header) c is read = judged_read id is_tolerant header.0 bytes header.1 c is read

-- damage bars an opening
pub damage_bars : (id : FileId) (is_tolerant : Bool) (bytes : List ℕ) (e : Fault) → IsDamage id is_tolerant bytes e → IsOpenableLog id is_tolerant bytes → ⊥
damage_bars id is_tolerant bytes fault.Corruption damage log = damage.1 log
damage_bars id is_tolerant bytes fault.Range damage log = let both : false ≡ true = sym damage ∙ log.places in cc
damage_bars id is_tolerant bytes fault.Lz4 damage log = log.unmarked damage.read damage.is_read damage.marked
damage_bars id is_tolerant bytes _ damage log = damage
