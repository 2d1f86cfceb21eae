-- What a dump gives of a part is what it gives of its file.
use Rattle.std.proofs.Common.{◌≡◌, ℕ, ◌+◌, ◌-◌, ◌≤◌, ◌++◌, cond, Bool, true, false, List, [], ◌∷◌, length, take, drop, append_assoc, Option, Some, None, option_and_then, Ok, refl, sym, ap, subst, ◌∙◌, arith}
use Rattle.std.proofs.lemmas.List.{map-append}
use Rattle.std.proofs.Math.Seq.{drop-append_seam}
use Rattle.raft_base.specs.FileId.{signature_in}
use Rattle.raft_base.specs.declared.pipe_log.FileId.{FileId}
use Rattle.raft_records.specs.Front.{HasRecordOf}
use Rattle.raft_records.specs.Item.{Batch, Item}
use Rattle.raft_records.specs.Record.{Header, Parts, is_lz4_block, items_from as record_items, record_header, record_parts}
use Rattle.raft_records.specs.Replay.{parts_replay_refusal, replay_refusal, replayed_by, replayed_record}
use Rattle.raft_records.proofs.FrontLemmas.{front_parts}
use Rattle.raft_files.specs.RecordReader.{IsNext, RecordCursor, bytes_ahead, next_replay_refusal, replayed_left}
use Rattle.raft_files.specs.Replay.{next_replayed, replayed_at}
use Rattle.raft_files.specs.Scan.{PlacedRecord, end_of_records, record_place}
use Rattle.raft_files.specs.declared.format.LogFileFormat.{LogFileFormat}
use Rattle.raft_files.proofs.RecordReaderLemmas.{replayed_next}
use Rattle.raft_files.proofs.ReplayLemmas.{replayed_stay}
use Rattle.raft_files.proofs.ScanExtentLemmas.{parts_there, record_header_is, same_some, some_then}
use Rattle.raft_files.proofs.ScanLemmas.{placed_there, record_place_here}
use Rattle.raft_files.proofs.ScanPlacedLemmas.{first_placed, placed_by-next}
use Rattle.raft_dump.specs.Items.{Given, given_after, given_of, items_at}
use Rattle.raft_dump.specs.Given.{cursor, end_of_items, items_from, items_left, moved}
use Rattle.raft_dump.proofs.FrontLemmas.{tells_one}
use Rattle.raft_dump.proofs.JoinLemmas.{IsAhead, ahead_on, cut_to, not_padded}

-- the first record that a replay takes, and the reader behind it
record TakesOne (r : RecordCursor) (p : PlacedRecord) (ps : List PlacedRecord) : Type 0 where
  pub found : next_replayed r.id r.format r.bytes r.at ≡ Some p
  pub rest : replayed_left (record r { at = p.at + p.len }) ≡ ps

take_one : (r : RecordCursor) (p : PlacedRecord) (ps : List PlacedRecord) → replayed_left r ≡ p ∷ ps → TakesOne r p ps
take_one r p ps is =
    let first = first_placed (next_replayed r.id r.format r.bytes) (length r.bytes) r.at p ps is in
    let one = placed_by-next (replayed_stay r.id r.format r.bytes) (length r.bytes) r.at p first.is (omega arith) in
    record { found = first.is; rest = let both = sym one ∙ is in cc }

-- a record that a replay takes, and its header
record IsTaken (signature : Option ℕ) (bytes : List ℕ) (at : ℕ) (p : PlacedRecord) : Type 0 where
  pub stands : p.at ≡ at
  pub is : replayed_record signature (drop at bytes) ≡ Some (p.batch, p.len)
  pub header : Header
  pub read : record_header (drop at bytes) ≡ Some header
  pub long : 21 ≤ p.len
  pub len_is : header.len ≡ p.len
  pub within : p.len ≤ length (drop at bytes)

taken : (signature : Option ℕ) (bytes : List ℕ) (at : ℕ) (p : PlacedRecord) → replayed_at signature bytes at ≡ Some p → IsTaken signature bytes at p
unfolding replayed_at
taken signature bytes at p e =
    let there = placed_there at (replayed_record signature (drop at bytes)) p e in
    let parts = some_then replayed_by (record_parts signature (drop at bytes)) (p.batch, p.len) there.1 in
    let is = parts_there signature (drop at bytes) parts.0 parts.1 in
    let has = record_header_is (drop at bytes) parts.0.header is.header in
    let same = same_len (is_lz4_block parts.0.header.is_lz4 (length parts.0.block)) (record_items parts.0.items parts.0.block, parts.0.header.len) (p.batch, p.len) parts.2 in
    record {
      stands = there.0;
      is = there.1;
      header = parts.0.header;
      read = is.header;
      long = omega (arith, has.footer, has.len, same);
      len_is = same;
      within = omega (arith, is.within, same);
    }
  where
    same_len : (lz4 : Bool) (x y : Batch × ℕ) → cond lz4 None (Some x) ≡ Some y → x.1 ≡ y.1
    same_len true x y e = cc
    same_len false x y e = ap (λ (z : Batch × ℕ). z.1) (same_some e)

-- the items of one record, moved
pub moved_items : (from to at place : ℕ) (items : List Item) → to + (at - from) ≡ place → moved from to (items_at at items) ≡ items_at place items
moved_items from to at place [] e = refl
moved_items from to at place (i ∷ items) e =
    ap (λ (n : ℕ). record { offset = n; what = Ok i } ∷ moved from to (items_at at items)) e
    ∙ ap (λ (gs : List Given). record { offset = place; what = Ok i } ∷ gs) (moved_items from to at place items e)

module _ (id : FileId) (format : LogFileFormat) (unaligned : format.alignment ≡ 0) (whole part : List ℕ) where
  here : (bytes : List ℕ) (at : ℕ) → record_place format.alignment bytes at ≡ at
  here bytes at = record_place_here format.alignment bytes at (not_padded format.alignment bytes at unaligned)

  ahead : (bytes : List ℕ) (at : ℕ) → bytes_ahead (cursor id format bytes at) ≡ drop at bytes
  ahead bytes at = ap (λ (place : ℕ). drop place bytes) (here bytes at)

  -- what tells a record tells why a replay doesn't take it
  pub replay_refusal_told : (a b : ℕ) → HasRecordOf (drop a whole) (drop b part) → next_replay_refusal (cursor id format whole a) ≡ next_replay_refusal (cursor id format part b)
  replay_refusal_told a b has =
      ap (replay_refusal (signature_in format.version id.seq)) (ahead whole a)
      ∙ ap parts_replay_refusal (sym (front_parts (signature_in format.version id.seq) (drop a whole) (drop b part) has))
      ∙ ap (replay_refusal (signature_in format.version id.seq)) (sym (ahead part b))

  record_told : (a b : ℕ) → HasRecordOf (drop a whole) (drop b part) → replayed_record (signature_in format.version id.seq) (bytes_ahead (cursor id format whole a)) ≡ replayed_record (signature_in format.version id.seq) (drop b part)
  record_told a b has = ap (replayed_record (signature_in format.version id.seq)) (ahead whole a) ∙ ap (option_and_then replayed_by) (sym (front_parts (signature_in format.version id.seq) (drop a whole) (drop b part) has))

  -- these items are given by the part from one place on, and by the file from the other
  record IsGivenToo (from to a b : ℕ) (ps : List PlacedRecord) : Type 0 where
    pub behind : b ≤ end_of_records b ps
    pub gives : given_after (cursor id format whole a) ≡ moved from to (items_from b ps) ++ given_after (cursor id format whole (a + (end_of_records b ps - b)))

  given_too : (ps : List PlacedRecord) (from to a b : ℕ) → a ≡ to + (b - from) → from ≤ b → IsAhead whole a part b → replayed_left (cursor id format part b) ≡ ps → IsGivenToo from to a b ps
  given_too [] from to a b place begun same is = record {
    behind = omega arith;
    gives = ap (λ (n : ℕ). given_after (cursor id format whole n)) (omega arith);
  }
  given_too (p ∷ ps) from to a b place begun same is =
      let others : IsGivenToo from to (a + p.len) (p.at + p.len) ps = given_too ps from to (a + p.len) (p.at + p.len) (omega (arith, place, at_is, begun)) (omega (arith, at_is, begun)) further one.rest in
      record {
        behind = omega (arith, others.behind, at_is, found.long);
        gives = first ∙ ap (λ (gs : List Given). items_at a p.batch ++ gs) others.gives ∙ sym (append_assoc (items_at a p.batch) _ _) ∙ rest (omega (arith, others.behind, at_is));
      }
    where
      one : TakesOne (cursor id format part b) p ps
      one = take_one (cursor id format part b) p ps is

      found : IsTaken (signature_in format.version id.seq) part (record_place format.alignment part b) p
      found = taken (signature_in format.version id.seq) part (record_place format.alignment part b) p one.found

      at_is : p.at ≡ b
      at_is = found.stands ∙ here part b

      there : IsTaken (signature_in format.version id.seq) part b p
      there = subst (λ (n : ℕ). IsTaken (signature_in format.version id.seq) part n p) (here part b) found

      has : HasRecordOf (drop a whole) (drop b part)
      has = tells_one (drop a whole) (drop b part) same there.header (omega (arith, there.long, there.within)) there.read (λ _. omega (arith, there.len_is, there.within))

      next : IsNext replayed_left (cursor id format whole a) p.batch (cursor id format whole (a + p.len))
      next = replayed_next (cursor id format whole a) a p.batch p.len (sym (here whole a)) (record_told a b has ∙ there.is)

      further : IsAhead whole (a + p.len) part (p.at + p.len)
      further = subst (λ (n : ℕ). IsAhead whole (a + p.len) part (n + p.len)) (sym at_is) (ahead_on whole part a b p.len same there.within)

      next_at : next.0.at + next.0.len ≡ a + p.len
      next_at = ap (λ (x : RecordCursor). x.at) (sym next.3)

      first : given_after (cursor id format whole a) ≡ items_at a p.batch ++ given_after (cursor id format whole (a + p.len))
      first =
          ap (given_of (cursor id format whole a)) next.2
          ∙ ap (λ (b : Batch). items_at a b ++ given_of (cursor id format whole (next.0.at + next.0.len)) (replayed_left (cursor id format whole (a + p.len)))) next.1
          ∙ ap (λ (n : ℕ). items_at a p.batch ++ given_of (cursor id format whole n) (replayed_left (cursor id format whole (a + p.len)))) next_at

      rest : a + p.len + (end_of_records (p.at + p.len) ps - (p.at + p.len)) ≡ a + (end_of_records (p.at + p.len) ps - b) → (items_at a p.batch ++ moved from to (items_from (p.at + p.len) ps)) ++ given_after (cursor id format whole (a + p.len + (end_of_records (p.at + p.len) ps - (p.at + p.len))))
          ≡ moved from to (items_from b (p ∷ ps)) ++ given_after (cursor id format whole (a + (end_of_records b (p ∷ ps) - b)))
      rest end =
          ap (λ (gs : List Given). (gs ++ moved from to (items_from (p.at + p.len) ps)) ++ given_after (cursor id format whole (a + p.len + (end_of_records (p.at + p.len) ps - (p.at + p.len))))) (sym (moved_items from to b a p.batch (sym place)))
          ∙ ap (λ (gs : List Given). gs ++ given_after (cursor id format whole (a + p.len + (end_of_records (p.at + p.len) ps - (p.at + p.len))))) (sym (map-append _ (items_at b p.batch) (items_from (p.at + p.len) ps)))
          ∙ ap (λ (n : ℕ). moved from to (items_from b (p ∷ ps)) ++ given_after (cursor id format whole n)) end

-- a part behind a header of any bytes
pub part_gives : (id : FileId) (format : LogFileFormat) (header bytes part : List ℕ) (at len : ℕ) → format.alignment ≡ 0 → part ≡ take len (drop at bytes) →
    given_after (cursor id format bytes at) ≡ moved (length header) at (items_left (cursor id format (header ++ part) (length header))) ++ given_after (cursor id format bytes (at + (end_of_items (cursor id format (header ++ part) (length header)) - length header)))
part_gives id format header bytes part at len unaligned is =
    let all : drop (length header) (header ++ part) ≡ part = drop-append_seam header part in
    let same : IsAhead bytes at (header ++ part) (length header) = all ∙ cut_to len (drop at bytes) part is ∙ ap (λ (l : List ℕ). take (length l) (drop at bytes)) (sym all) in
    (given_too id format unaligned bytes (header ++ part) (replayed_left (cursor id format (header ++ part) (length header))) (length header) at at (length header) (omega arith) (omega arith) same refl).gives
