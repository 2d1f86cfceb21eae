-- The items of the sound records of a part are those of its file.
use Rattle.std.proofs.Common.{◌≡◌, ℕ, ◌+◌, ◌-◌, ◌≤◌, ◌++◌, List, [], ◌∷◌, length, take, drop, append_assoc, Option, Some, option_and_then, refl, sym, ap, subst, ◌∙◌, arith}
use Rattle.std.proofs.lemmas.List.{map-append}
use Rattle.std.proofs.Math.Seq.{drop-append_seam}
use Rattle.raft_base.specs.FileId.{signature_in}
use Rattle.raft_base.specs.declared.pipe_log.FileId.{FileId}
use Rattle.raft_records.specs.Front.{HasRecordOf}
use Rattle.raft_records.specs.Item.{Batch}
use Rattle.raft_records.specs.Record.{Header, batch_by, record_header, record_of}
use Rattle.raft_records.proofs.FrontLemmas.{front_parts}
use Rattle.raft_files.specs.RecordReader.{IsNext, RecordCursor, bytes_ahead, records_left}
use Rattle.raft_files.specs.Scan.{PlacedRecord, end_of_records, record_place}
use Rattle.raft_files.specs.declared.format.LogFileFormat.{LogFileFormat}
use Rattle.raft_files.proofs.RecordReaderLemmas.{readable_next}
use Rattle.raft_files.proofs.ScanExtentLemmas.{record_of_header}
use Rattle.raft_files.proofs.ScanLemmas.{IsRecordAt, found_record, record_place_here}
use Rattle.raft_dump.specs.Check.{records_read}
use Rattle.raft_dump.specs.Given.{cursor, end_of_sound, items_from, moved, sound_items}
use Rattle.raft_dump.specs.Items.{Given, items_at}
use Rattle.raft_dump.proofs.CheckLemmas.{ReadsOne, read_next, read_one}
use Rattle.raft_dump.proofs.FrontLemmas.{tells_one}
use Rattle.raft_dump.proofs.GivenLemmas.{moved_items}
use Rattle.raft_dump.proofs.JoinLemmas.{IsAhead, ahead_on, cut_to, not_padded, refusal_told}

module _ (id : FileId) (format : LogFileFormat) (unaligned : format.alignment ≡ 0) (whole part : List ℕ) where
  here : (bytes : List ℕ) (at : ℕ) → record_place format.alignment bytes at ≡ at
  here bytes at = record_place_here format.alignment bytes at (not_padded format.alignment bytes at unaligned)

  ahead : (bytes : List ℕ) (at : ℕ) → bytes_ahead (cursor id format bytes at) ≡ drop at bytes
  ahead bytes at = ap (λ (place : ℕ). drop place bytes) (here bytes at)

  record_told : (a b : ℕ) → HasRecordOf (drop a whole) (drop b part) → record_of (signature_in format.version id.seq) (bytes_ahead (cursor id format whole a)) ≡ record_of (signature_in format.version id.seq) (drop b part)
  record_told a b has = ap (record_of (signature_in format.version id.seq)) (ahead whole a) ∙ ap (option_and_then batch_by) (sym (front_parts (signature_in format.version id.seq) (drop a whole) (drop b part) has))

  -- the items of these records are read of the part from one place on, and of the file from the other
  record IsReadToo (from to a b : ℕ) (ps : List PlacedRecord) : Type 0 where
    pub behind : b ≤ end_of_records b ps
    pub reads : sound_items (cursor id format whole a) ≡ moved from to (items_from b ps) ++ sound_items (cursor id format whole (a + (end_of_records b ps - b)))

  read_too : (ps : List PlacedRecord) (from to a b : ℕ) → a ≡ to + (b - from) → from ≤ b → IsAhead whole a part b → records_read (cursor id format part b) ≡ ps → IsReadToo from to a b ps
  read_too [] from to a b place begun same is = record {
    behind = omega arith;
    reads = ap (λ (n : ℕ). sound_items (cursor id format whole n)) (omega arith);
  }
  read_too (p ∷ ps) from to a b place begun same is =
      let others : IsReadToo from to (a + p.len) (p.at + p.len) ps = read_too ps from to (a + p.len) (p.at + p.len) (omega (arith, place, at_is, begun)) (omega (arith, at_is, begun)) further one.rest in
      record {
        behind = omega (arith, others.behind, at_is, found.long);
        reads = first ∙ ap (λ (gs : List Given). items_at a p.batch ++ gs) others.reads ∙ sym (append_assoc (items_at a p.batch) _ _) ∙ rest (omega (arith, others.behind, at_is));
      }
    where
      one : ReadsOne (cursor id format part b) p ps
      one = read_one (cursor id format part b) p ps is

      found : IsRecordAt (signature_in format.version id.seq) part (record_place format.alignment part b) p
      found = found_record (signature_in format.version id.seq) part (record_place format.alignment part b) p one.found

      at_is : p.at ≡ b
      at_is = found.stands ∙ here part b

      stands : record_of (signature_in format.version id.seq) (drop b part) ≡ Some (p.batch, p.len)
      stands = ap (λ (n : ℕ). record_of (signature_in format.version id.seq) (drop n part)) (sym (here part b)) ∙ found.is

      h : (header : Header) × (record_header (drop b part) ≡ Some header) × (header.len ≡ p.len) × (p.len ≤ length (drop b part))
      h = record_of_header (signature_in format.version id.seq) (drop b part) p.batch p.len stands

      has : HasRecordOf (drop a whole) (drop b part)
      has = tells_one (drop a whole) (drop b part) same h.0 (omega (arith, found.long, h.3)) h.1 (λ _. omega (arith, h.2, h.3))

      next : IsNext records_left (cursor id format whole a) p.batch (cursor id format whole (a + p.len))
      next = readable_next (cursor id format whole a) a p.batch p.len (sym (here whole a)) (record_told a b has ∙ stands)

      reads : records_read (cursor id format whole a) ≡ next.0 ∷ records_read (cursor id format whole (a + p.len))
      reads = read_next (cursor id format whole a) (cursor id format whole (a + p.len)) next.0 next.2 next.3 (refusal_told id format unaligned whole part a b has ∙ one.accepted)

      further : IsAhead whole (a + p.len) part (p.at + p.len)
      further = subst (λ (n : ℕ). IsAhead whole (a + p.len) part (n + p.len)) (sym at_is) (ahead_on whole part a b p.len same h.3)

      next_at : next.0.at + next.0.len ≡ a + p.len
      next_at = ap (λ (x : RecordCursor). x.at) (sym next.3)

      first : sound_items (cursor id format whole a) ≡ items_at a p.batch ++ sound_items (cursor id format whole (a + p.len))
      first =
          ap (items_from a) reads
          ∙ ap (λ (b : Batch). items_at a b ++ items_from (next.0.at + next.0.len) (records_read (cursor id format whole (a + p.len)))) next.1
          ∙ ap (λ (n : ℕ). items_at a p.batch ++ items_from n (records_read (cursor id format whole (a + p.len)))) next_at

      rest : a + p.len + (end_of_records (p.at + p.len) ps - (p.at + p.len)) ≡ a + (end_of_records (p.at + p.len) ps - b) → (items_at a p.batch ++ moved from to (items_from (p.at + p.len) ps)) ++ sound_items (cursor id format whole (a + p.len + (end_of_records (p.at + p.len) ps - (p.at + p.len))))
          ≡ moved from to (items_from b (p ∷ ps)) ++ sound_items (cursor id format whole (a + (end_of_records b (p ∷ ps) - b)))
      rest end =
          ap (λ (gs : List Given). (gs ++ moved from to (items_from (p.at + p.len) ps)) ++ sound_items (cursor id format whole (a + p.len + (end_of_records (p.at + p.len) ps - (p.at + p.len))))) (sym (moved_items from to b a p.batch (sym place)))
          ∙ ap (λ (gs : List Given). gs ++ sound_items (cursor id format whole (a + p.len + (end_of_records (p.at + p.len) ps - (p.at + p.len))))) (sym (map-append _ (items_at b p.batch) (items_from (p.at + p.len) ps)))
          ∙ ap (λ (n : ℕ). moved from to (items_from b (p ∷ ps)) ++ sound_items (cursor id format whole n)) end

-- a part behind a header of any bytes
pub part_reads : (id : FileId) (format : LogFileFormat) (header bytes part : List ℕ) (at len : ℕ) → format.alignment ≡ 0 → part ≡ take len (drop at bytes) →
    sound_items (cursor id format bytes at) ≡ moved (length header) at (sound_items (cursor id format (header ++ part) (length header))) ++ sound_items (cursor id format bytes (at + (end_of_sound (cursor id format (header ++ part) (length header)) - length header)))
part_reads id format header bytes part at len unaligned is =
    let all : drop (length header) (header ++ part) ≡ part = drop-append_seam header part in
    let same : IsAhead bytes at (header ++ part) (length header) = all ∙ cut_to len (drop at bytes) part is ∙ ap (λ (l : List ℕ). take (length l) (drop at bytes)) (sym all) in
    (read_too id format unaligned bytes (header ++ part) (records_read (cursor id format (header ++ part) (length header))) (length header) at at (length header) (omega arith) (omega arith) same refl).reads
