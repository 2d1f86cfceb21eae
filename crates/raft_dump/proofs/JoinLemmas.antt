-- What is read of a part is what is read of its file.
use Rattle.std.proofs.Common.{◌≡◌, ℕ, ◌+◌, ◌-◌, ◌^◌, ◌<◌, ◌≤◌, ◌++◌, min, nat_lt, false, List, [], ◌∷◌, length, take, drop, Option, Some, None, option_and_then, refl, sym, ap, subst, ◌∙◌, arith, length-drop, inl, inr}
use Rattle.std.proofs.lemmas.Bool.{cases_Bool, ltb-false, ltb-true}
use Rattle.std.proofs.lemmas.List.{drop-drop, drop-take, length-append, length-take, take_all}
use Rattle.std.proofs.Math.Seq.{drop-append-add, drop-append_seam, take-append_seam}
use Rattle.raft_base.specs.FileId.{signature_in}
use Rattle.raft_base.specs.declared.errors.Fault.{Fault}
use Rattle.raft_base.specs.declared.pipe_log.FileId.{FileId}
use Rattle.raft_records.specs.Front.{HasRecordOf}
use Rattle.raft_records.specs.Item.{Batch}
use Rattle.raft_records.specs.ItemBatch.{parts_refusal, record_refusal}
use Rattle.raft_records.specs.Record.{Header, batch_by, record_header, record_of, record_parts}
use Rattle.raft_records.proofs.FrontLemmas.{front_parts}
use Rattle.raft_files.specs.Header.{header_len, header_of}
use Rattle.raft_files.specs.RecordReader.{IsNext, RecordCursor, bytes_ahead, cursor_after_header, next_refusal, records_left}
use Rattle.raft_files.specs.Scan.{PlacedRecord, end_of_records, is_padding, record_place}
use Rattle.raft_files.specs.declared.format.LogFileFormat.{LogFileFormat}
use Rattle.raft_files.proofs.RecordReaderLemmas.{readable_next}
use Rattle.raft_files.proofs.ScanExtentLemmas.{record_of_header}
use Rattle.raft_files.proofs.ScanLemmas.{IsRecordAt, found_record, header_of-kept, header_within, reading_after_header, record_place_here}
use Rattle.raft_dump.specs.Check.{EndsReading, IsCheckOf, IsReadFrom, IsReadIn, records_read}
use Rattle.raft_dump.specs.declared.check.FileCheck.{FileCheck}
use Rattle.raft_dump.proofs.CheckLemmas.{IsReadTo, ReadsOne, read_one, reading_begins, reading_goes_on}
use Rattle.raft_dump.specs.Given.{cursor}
use Rattle.raft_dump.specs.Parts.{BeginsWith, IsWanted, TellsNext}
use Rattle.raft_dump.proofs.FrontLemmas.{tells_one}

pub not_padded : (alignment : ℕ) (bytes : List ℕ) (at : ℕ) → alignment ≡ 0 → is_padding alignment bytes at ≡ false
not_padded alignment bytes at none = rw none refl

-- the bytes of the other file from a place on are the next ones of the file from another place on
abbrev pub IsAhead : List ℕ → ℕ → List ℕ → ℕ → Type 0
IsAhead whole a part b = drop b part ≡ take (length (drop b part)) (drop a whole)

pub ahead_on : (whole part : List ℕ) (a b len : ℕ) → IsAhead whole a part b → len ≤ length (drop b part) → IsAhead whole (a + len) part (b + len)
ahead_on whole part a b len same within =
    let k = length (drop b part) - len in
    let sum : length (drop b part) ≡ len + k = omega (arith, within) in
    let cut : drop (b + len) part ≡ take k (drop (a + len) whole) =
    sym (drop-drop len b part) ∙ ap (drop len) same ∙ ap (λ (n : ℕ). drop len (take n (drop a whole))) sum
    ∙ drop-take len k (drop a whole) ∙ ap (take k) (drop-drop len a whole) in
    let size : length (drop (b + len) part) ≡ k = omega (arith, length-drop (b + len) part, length-drop b part) in
    cut ∙ ap (λ (n : ℕ). take n (drop (a + len) whole)) (sym size)

module _ (id : FileId) (format : LogFileFormat) (unaligned : format.alignment ≡ 0) (whole part : List ℕ) where
  signature : Option ℕ
  signature = signature_in format.version id.seq

  here : (bytes : List ℕ) (at : ℕ) → record_place format.alignment bytes at ≡ at
  here bytes at = record_place_here format.alignment bytes at (not_padded format.alignment bytes at unaligned)

  ahead : (bytes : List ℕ) (at : ℕ) → bytes_ahead (cursor id format bytes at) ≡ drop at bytes
  ahead bytes at = ap (λ (place : ℕ). drop place bytes) (here bytes at)

  -- what tells a record tells why it is refused
  pub refusal_told : (a b : ℕ) → HasRecordOf (drop a whole) (drop b part) → next_refusal (cursor id format whole a) ≡ next_refusal (cursor id format part b)
  unfolding signature
  refusal_told a b has =
      ap (record_refusal signature) (ahead whole a)
      ∙ ap parts_refusal (sym (front_parts signature (drop a whole) (drop b part) has))
      ∙ ap (record_refusal signature) (sym (ahead part b))

  record_told : (a b : ℕ) → HasRecordOf (drop a whole) (drop b part) → record_of signature (bytes_ahead (cursor id format whole a)) ≡ record_of signature (drop b part)
  unfolding signature
  record_told a b has = ap (record_of signature) (ahead whole a) ∙ ap (option_and_then batch_by) (sym (front_parts signature (drop a whole) (drop b part) has))

  -- these records were read of the part, and so many records stand before them in the file
  record Joined (a b count : ℕ) (ps : List PlacedRecord) : Type 0 where
    pub behind : b ≤ end_of_records b ps
    pub inside : end_of_records b ps ≤ b + length (drop b part)
    pub to : IsReadTo id whole (cursor id format whole (a + (end_of_records b ps - b))) (count + length ps)
    pub same : IsAhead whole (a + (end_of_records b ps - b)) part (end_of_records b ps)

  joined : (ps : List PlacedRecord) (a b count : ℕ) → IsAhead whole a part b → records_read (cursor id format part b) ≡ ps → IsReadTo id whole (cursor id format whole a) count → Joined a b count ps
  unfolding signature
  joined [] a b count same is to =
      let stays : a ≡ a + (b - b) = omega arith in
      record {
        behind = omega arith;
        inside = omega arith;
        to = subst (λ (n : ℕ). IsReadTo id whole (cursor id format whole n) (count + 0)) stays (subst (IsReadTo id whole (cursor id format whole a)) (omega arith) to);
        same = subst (λ (n : ℕ). IsAhead whole n part b) stays same;
      }
  joined (p ∷ ps) a b count same is to =
      let others : Joined (a + p.len) (p.at + p.len) (count + 1) ps = joined ps (a + p.len) (p.at + p.len) (count + 1) further one.rest on in
      let there : a + p.len + (end_of_records (p.at + p.len) ps - (p.at + p.len)) ≡ a + (end_of_records (p.at + p.len) ps - b) = omega (arith, others.behind, at_is) in
      record {
        behind = omega (arith, others.behind, at_is, found.long);
        inside = omega (arith, others.inside, at_is, length-drop b part, length-drop (p.at + p.len) part, h.3);
        to = subst (λ (n : ℕ). IsReadTo id whole (cursor id format whole n) (count + length (p ∷ ps))) there (subst (IsReadTo id whole (cursor id format whole (a + p.len + (end_of_records (p.at + p.len) ps - (p.at + p.len))))) (omega arith) others.to);
        same = subst (λ (n : ℕ). IsAhead whole n part (end_of_records (p.at + p.len) ps)) there others.same;
      }
    where
      one : ReadsOne (cursor id format part b) p ps
      one = read_one (cursor id format part b) p ps is

      found : IsRecordAt (signature_in format.version id.seq) part (record_place format.alignment part b) p
      found = found_record (signature_in format.version id.seq) part (record_place format.alignment part b) p one.found

      at_is : p.at ≡ b
      at_is = found.stands ∙ here part b

      stands : record_of (signature_in format.version id.seq) (drop b part) ≡ Some (p.batch, p.len)
      stands = ap (λ (n : ℕ). record_of (signature_in format.version id.seq) (drop n part)) (sym (here part b)) ∙ found.is

      h : (header : Header) × (record_header (drop b part) ≡ Some header) × (header.len ≡ p.len) × (p.len ≤ length (drop b part))
      h = record_of_header (signature_in format.version id.seq) (drop b part) p.batch p.len stands

      has : HasRecordOf (drop a whole) (drop b part)
      has = tells_one (drop a whole) (drop b part) same h.0 (omega (arith, found.long, h.3)) h.1 (λ _. omega (arith, h.2, h.3))

      next : IsNext records_left (cursor id format whole a) p.batch (cursor id format whole (a + p.len))
      next = readable_next (cursor id format whole a) a p.batch p.len (sym (here whole a)) (record_told a b has ∙ stands)

      on : IsReadTo id whole (cursor id format whole (a + p.len)) (count + 1)
      on = reading_goes_on id whole (cursor id format whole a) (cursor id format whole (a + p.len)) p.batch count to next (refusal_told a b has ∙ one.accepted)

      further : IsAhead whole (a + p.len) part (p.at + p.len)
      further = subst (λ (n : ℕ). IsAhead whole (a + p.len) part (n + p.len)) (sym at_is) (ahead_on whole part a b p.len same h.3)

-- the header of a file is as long as its version has it
header_size : (id : FileId) (format : LogFileFormat) (header bytes : List ℕ) → BeginsWith header format bytes → length header ≡ header_len format.version
header_size id format header bytes begins =
    let long = header_within id bytes _ (reading_after_header id bytes format begins.rest begins.read) in
    omega (arith, ap length begins.header_is, length-take (header_len format.version) bytes, long)

-- nothing is read yet behind the header
pub begins_read : (id : FileId) (format : LogFileFormat) (header bytes : List ℕ) → BeginsWith header format bytes → IsReadTo id bytes (cursor id format bytes (length header)) 0
begins_read id format header bytes begins =
    subst (λ (n : ℕ). IsReadTo id bytes (cursor id format bytes n) 0) (sym (header_size id format header bytes begins))
    (reading_begins id (cursor_after_header id format bytes) (record { rest = begins.rest; header = begins.read; is = refl }))

-- bytes that were cut from the front are as many as they are
pub cut_to : (len : ℕ) (xs part : List ℕ) → part ≡ take len xs → part ≡ take (length part) xs
cut_to len xs part is = elim (cases_Bool (nat_lt len (length xs))) [
  | inl fewer ↦
      let less = ltb-true len (length xs) fewer in
      is ∙ ap (λ (n : ℕ). take n xs) (omega (arith, less, ap length is, length-take len xs))
  | inr all ↦
      let more = ltb-false len (length xs) all in
      is ∙ take_all len xs more ∙ sym (take_all (length part) xs (omega (arith, more, ap length is, length-take len xs)))
]

-- a part of a file behind its header, of which this was read
pub record IsJoined (id : FileId) (format : LogFileFormat) (bytes part : List ℕ) (size at count : ℕ) (c : FileCheck) : Type 0 where
  pub behind : size ≤ c.end
  pub inside : c.end - size ≤ length part
  pub within : at + (c.end - size) ≤ length bytes
  pub to : IsReadTo id bytes (cursor id format bytes (at + (c.end - size))) (count + c.records)
  pub same : IsAhead bytes (at + (c.end - size)) part (c.end - size)
  pub ends : HasRecordOf (drop (at + (c.end - size)) bytes) (drop (c.end - size) part) → EndsReading (cursor id format bytes (at + (c.end - size))) c.stop

module _ (id : FileId) (format : LogFileFormat) (header bytes part : List ℕ) (at len count : ℕ) (c : FileCheck) (begins : BeginsWith header format bytes) (within : at ≤ length bytes) (part_is : part ≡ take len (drop at bytes)) (check : IsCheckOf id (header ++ part) c) (to : IsReadTo id bytes (cursor id format bytes at) count) where
  size : ℕ
  size = header_len format.version

  image : List ℕ
  image = header ++ part

  place : ℕ
  place = at + (c.end - length header)

  size_is : length header ≡ size
  unfolding size
  size_is = header_size id format header bytes begins

  front_is : take size bytes ≡ take size image
  unfolding size image
  front_is = sym begins.header_is ∙ sym (take-append_seam header part) ∙ ap (λ (n : ℕ). take n (header ++ part)) size_is

  again : header_of image ≡ Some (format, drop (header_len format.version) image)
  unfolding size image
  again = header_of-kept (header_len format.version) bytes (header ++ part) format begins.rest front_is begins.read (omega arith)

  read : IsReadFrom (cursor id format image size) c
  unfolding size image
  read = subst (λ h. IsReadIn id (header ++ part) h c) again check.reading.read

  ps : List PlacedRecord
  unfolding size image
  ps = records_read (cursor id format image size)

  begin_same : IsAhead bytes at image size
  unfolding size image
  begin_same =
      let all : drop (header_len format.version) (header ++ part) ≡ part = ap (λ (n : ℕ). drop n (header ++ part)) (sym size_is) ∙ drop-append_seam header part in
      all ∙ cut_to len (drop at bytes) part part_is ∙ ap (λ (l : List ℕ). take (length l) (drop at bytes)) (sym all)

  join : Joined id format begins.unaligned bytes image at size count ps
  unfolding ps size image
  join = joined id format begins.unaligned bytes image ps at size count begin_same refl to

  end_is : c.end ≡ end_of_records size ps
  unfolding ps
  end_is = read.end

  count_is : c.records ≡ length ps
  unfolding ps
  count_is = read.records

  place_is : at + (end_of_records size ps - size) ≡ place
  unfolding place
  place_is = omega (arith, end_is, size_is)

  rest_is : drop c.end image ≡ drop (c.end - length header) part
  unfolding image
  rest_is =
      ap (λ (n : ℕ). drop n (header ++ part)) (omega (arith, join.behind, end_is, size_is))
      ∙ drop-append-add header part (c.end - length header)

  inside : c.end - length header ≤ length part
  unfolding image
  inside = omega (arith, join.inside, end_is, size_is, length-drop size (header ++ part), length-append header part)

  short : length part ≤ length bytes - at
  short = omega (arith, ap length part_is, length-take len (drop at bytes), length-drop at bytes)

  same : IsAhead bytes place image c.end
  same =
      let there : IsAhead bytes place image (end_of_records size ps) = subst (λ (n : ℕ). IsAhead bytes n image (end_of_records size ps)) place_is join.same in
      subst (IsAhead bytes place image) (sym end_is) there

  ends : (stop : Option Fault) → c.stop ≡ stop → HasRecordOf (drop place bytes) (drop c.end image) → EndsReading (cursor id format bytes place) stop
  unfolding place image
  ends None is has =
      let end : c.end ≡ length (header ++ part) = subst (EndsReading (record (cursor id format image size) { at = c.end })) is read.stop in
      omega (arith, end, has.header, ap length has.front_is, length-take has.len (drop place bytes), length-drop place bytes, length-drop c.end (header ++ part), inside, short, within)
  ends (Some e) is has =
      let stop : EndsReading (record (cursor id format image size) { at = c.end }) (Some e) = subst (EndsReading (record (cursor id format image size) { at = c.end })) is read.stop in
      (omega (arith, stop.0, length-append header part, join.behind, end_is, size_is, short, within), refusal_told id format begins.unaligned bytes image place c.end has ∙ stop.1)

  pub part_joined : IsJoined id format bytes part (length header) at count c
  unfolding place
  part_joined = record {
    behind = omega (arith, join.behind, end_is, size_is);
    inside = inside;
    within = omega (arith, inside, short, within);
    to = subst (λ (n : ℕ). IsReadTo id bytes (cursor id format bytes n) (count + c.records)) place_is (subst (IsReadTo id bytes (cursor id format bytes (at + (end_of_records size ps - size)))) (ap (λ (n : ℕ). count + n) (sym count_is)) join.to);
    same = sym rest_is ∙ same ∙ ap (λ (l : List ℕ). take (length l) (drop place bytes)) rest_is;
    ends = λ has. ends c.stop refl (subst (HasRecordOf (drop place bytes)) (sym rest_is) has);
  }

  next_place : ℕ
  next_place = at + min (c.end - length header) (length part)

  next_is : at + (c.end - length header) ≡ next_place
  unfolding next_place
  next_is = omega (arith, part_joined.inside)

  -- what a check gains by the part, and why it stops there where the part tells what stands there
  pub part_added : (size : ℕ) → length bytes ≡ size → size < 2 ^ 64 → IsReadTo id bytes (cursor id format bytes (at + min (c.end - length header) (length part))) (min (count + c.records) (2 ^ 64 - 1))
      × (TellsNext (size - (at + min (c.end - length header) (length part))) (drop (at + min (c.end - length header) (length part) - at) part) → EndsReading (cursor id format bytes (at + min (c.end - length header) (length part))) c.stop)
  unfolding next_place
  part_added total total_is fits = (
    subst (λ (n : ℕ). IsReadTo id bytes (cursor id format bytes n) (min (count + c.records) (2 ^ 64 - 1))) next_is
        (subst (IsReadTo id bytes (cursor id format bytes (at + (c.end - length header)))) (omega (arith, part_joined.to.few, part_joined.within, total_is, fits)) part_joined.to),
    λ tells.
        let front : drop (c.end - length header) part ≡ drop (at + min (c.end - length header) (length part) - at) part = ap (λ (n : ℕ). drop n part) (omega (arith, part_joined.inside)) in
        let size_left : length (drop (at + (c.end - length header)) bytes) ≡ total - (at + min (c.end - length header) (length part)) = length-drop (at + (c.end - length header)) bytes ∙ omega (arith, next_is, total_is) in
        let told : HasRecordOf (drop (at + (c.end - length header)) bytes) (drop (at + min (c.end - length header) (length part) - at) part) =
        tells (drop (at + (c.end - length header)) bytes) size_left (subst (λ (l : List ℕ). l ≡ take (length l) (drop (at + (c.end - length header)) bytes)) front part_joined.same) in
        subst (λ (n : ℕ). EndsReading (cursor id format bytes n) c.stop) next_is
        (part_joined.ends (subst (HasRecordOf (drop (at + (c.end - length header)) bytes)) (sym front) told)),
  )

-- a check that has gained what was read of a part
pub goes_on : (id : FileId) (format : LogFileFormat) (header bytes part front : List ℕ) (size len : ℕ) (check read new : FileCheck) (wanted : Option ℕ) → BeginsWith header format bytes → length bytes ≡ size → size < 2 ^ 64 → check.end ≤ size → part ≡ take len (drop check.end bytes) → IsCheckOf id (header ++ part) read →
    IsReadTo id bytes (cursor id format bytes check.end) check.records → front ≡ part →
    new ≡ record check { records = min (check.records + read.records) (2 ^ 64 - 1); end = check.end + min (read.end - length header) (length front); stop = read.stop } →
    IsWanted (size - new.end) (drop (new.end - check.end) front) wanted →
    IsReadTo id bytes (cursor id format bytes new.end) new.records × (wanted ≡ None → EndsReading (cursor id format bytes new.end) new.stop)
goes_on id format header bytes part front size len check read new wanted begins size_is fits within part_is check_is to front_is new_is wants =
    let added = part_added id format header bytes part check.end len check.records read begins (omega (arith, within, size_is)) part_is check_is to size size_is fits in
    let after : FileCheck = record check { records = min (check.records + read.records) (2 ^ 64 - 1); end = check.end + min (read.end - length header) (length part); stop = read.stop } in
    let same : new ≡ after = new_is ∙ ap (λ (l : List ℕ). record check { records = min (check.records + read.records) (2 ^ 64 - 1); end = check.end + min (read.end - length header) (length l); stop = read.stop }) front_is in
    let there : IsWanted (size - after.end) (drop (after.end - check.end) part) wanted =
    subst (λ (x : FileCheck). IsWanted (size - x.end) (drop (x.end - check.end) part) wanted) same
    (subst (λ (l : List ℕ). IsWanted (size - new.end) (drop (new.end - check.end) l) wanted) front_is wants) in
    subst (λ (x : FileCheck). IsReadTo id bytes (cursor id format bytes x.end) x.records × (wanted ≡ None → EndsReading (cursor id format bytes x.end) x.stop)) (sym same)
    (added.0, λ none. added.1 (subst (IsWanted (size - after.end) (drop (after.end - check.end) part)) none there))
