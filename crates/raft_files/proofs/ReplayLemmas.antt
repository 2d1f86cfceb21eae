-- What a replay takes of a file, and what can be read of it.
use Rattle.std.proofs.Common.{◌≡◌, ℕ, zero, suc, ◌+◌, ◌&&◌, not, Bool, true, false, cond, List, ◌∷◌, length, drop, Option, Some, None, option_and_then, refl, ap, sym, ◌∙◌, inl, inr, arith, length-drop}
use Rattle.std.specs.Prelude.{option_map}
use Rattle.std.specs.List.{take_while}
use Rattle.std.proofs.lemmas.Bool.{cases_Bool}
use Rattle.std.proofs.lemmas.List.Sums.{take_while-cons}
use Rattle.raft_records.specs.Item.{Batch}
use Rattle.raft_records.specs.Record.{Parts, batch_by, is_block, is_lz4_block, items_from, record_header, record_of, record_parts}
use Rattle.raft_records.specs.Replay.{replayed_by, replayed_record}
use Rattle.raft_base.specs.declared.pipe_log.FileId.{FileId}
use Rattle.raft_base.specs.FileId.{signature_in}
use Rattle.raft_files.specs.Header.{header_len, header_of}
use Rattle.raft_files.specs.Scan.{PlacedRecord, placed_by, readable_records, scan_after_header, record_at, record_place, next_record, records_after, records_of}
use Rattle.raft_files.specs.Replay.{block_after, has_sound_block_at, next_replayed, replayed_at, replayed_after, replayed_in, replayed_records}
use Rattle.raft_files.specs.declared.format.LogFileFormat.{LogFileFormat}
use Rattle.raft_files.proofs.ScanExtentLemmas.{parts_there, record_header_is, same_some, some_then}
use Rattle.raft_files.proofs.ScanLemmas.{placed_there, record_place-forward}
use Rattle.raft_files.proofs.ScanPlacedLemmas.{StaysBefore, cases_next}

-- What can be read is what a replay takes, where its block is sound.

cond_none : {A : Type 0} (b : Bool) → None ≡ cond {A = Option A} b None None
cond_none true = refl
cond_none false = refl

record_of-replayed_record : (signature : Option ℕ) (bytes : List ℕ) → record_of signature bytes ≡ cond (is_block (block_after bytes (record_header bytes))) (replayed_record signature bytes) None
record_of-replayed_record signature bytes = by_parts (record_parts signature bytes) refl
  where
    either : (lz4 sound : Bool) (x : Batch × ℕ) → cond (not lz4 && sound) (Some x) None ≡ cond sound (cond lz4 None (Some x)) None
    either true true x = refl
    either true false x = refl
    either false true x = refl
    either false false x = refl

    by_parts : (o : Option Parts) → record_parts signature bytes ≡ o → option_and_then batch_by o ≡ cond (is_block (block_after bytes (record_header bytes))) (option_and_then replayed_by o) None
    by_parts None e = cond_none (is_block (block_after bytes (record_header bytes)))
    by_parts (Some p) e =
        let is = parts_there signature bytes p e in
        either (is_lz4_block p.header.is_lz4 (length p.block)) (is_block p.block) (items_from p.items p.block, p.header.len)
        ∙ ap (λ block. cond (is_block block) (replayed_by p) None) (sym is.block)

record_at-replayed_at : (signature : Option ℕ) (bytes : List ℕ) (at : ℕ) → record_at signature bytes at ≡ option_and_then (λ p. cond (has_sound_block_at bytes p.at) (Some p) None) (replayed_at signature bytes at)
unfolding record_at replayed_at
record_at-replayed_at signature bytes at = ap (option_map placed) (record_of-replayed_record signature (drop at bytes)) ∙ by_found (has_sound_block_at bytes) (replayed_record signature (drop at bytes))
  where
    placed : Batch × ℕ → PlacedRecord
    placed x = record { at = at; len = x.1; batch = x.0 }

    by_found : (sound : ℕ → Bool) (o : Option (Batch × ℕ)) → option_map placed (cond (sound at) o None) ≡ option_and_then (λ p. cond (sound p.at) (Some p) None) (option_map placed o)
    by_found sound None = elim (cases_Bool (sound at)) [ inl is ↦ rw is refl | inr not_so ↦ rw not_so refl ]
    by_found sound (Some x) = elim (cases_Bool (sound at)) [ inl is ↦ rw is refl | inr not_so ↦ rw not_so refl ]

-- one search stops where what the other finds isn't sound
placed_by-sound : (sound : ℕ → Bool) (next next' : ℕ → Option PlacedRecord) → ((at : ℕ) → next at ≡ option_and_then (λ p. cond (sound p.at) (Some p) None) (next' at)) →
    (n at : ℕ) → placed_by n next at ≡ take_while (λ p. sound p.at) (placed_by n next' at)
placed_by-sound sound next next' same zero at = refl
placed_by-sound sound next next' same (suc n) at = elim (cases_next (next' at)) [
  | inl none ↦ rw (same at, none) refl
  | inr (p, some) ↦ rw (same at, some, take_while-cons (λ q. sound q.at) p (placed_by n next' (p.at + p.len))) (elim (cases_Bool (sound p.at)) [
    | inl is ↦ rw is (ap (λ ps. p ∷ ps) (placed_by-sound sound next next' same n (p.at + p.len)))
    | inr not_so ↦ rw not_so refl
  ])
]

pub records_after-replayed_after : (id : FileId) (format : LogFileFormat) (bytes : List ℕ) (at : ℕ) →
    records_after id format bytes at ≡ take_while (λ p. has_sound_block_at bytes p.at) (replayed_after id format bytes at)
records_after-replayed_after id format bytes at =
    placed_by-sound (has_sound_block_at bytes) (next_record id format bytes) (next_replayed id format bytes)
    (λ from. record_at-replayed_at (signature_in format.version id.seq) bytes (record_place format.alignment bytes from)) (length bytes) at

pub readable_records-replayed_records : (id : FileId) (bytes : List ℕ) → readable_records id bytes ≡ take_while (λ p. has_sound_block_at bytes p.at) (replayed_records id bytes)
readable_records-replayed_records id bytes = by_header (header_of bytes)
  where
    by_header : (header : Option (LogFileFormat × List ℕ)) → records_of (option_map (λ (h : LogFileFormat × List ℕ). scan_after_header id h.0 bytes) header) ≡ take_while (λ p. has_sound_block_at bytes p.at) (replayed_in id bytes header)
    by_header None = refl
    by_header (Some header) = records_after-replayed_after id header.0 bytes (header_len header.0.version)

-- Where a replay goes on.

-- what a replay takes at a place has bytes, and ends in the file
pub replayed_stay : (id : FileId) (format : LogFileFormat) (bytes : List ℕ) → StaysBefore (length bytes) (next_replayed id format bytes)
unfolding replayed_at
replayed_stay id format bytes = record {
  found = λ at p e.
      let place = record_place format.alignment bytes at in
      let signature = signature_in format.version id.seq in
      let there = placed_there place (replayed_record signature (drop place bytes)) p e in
      let parts = some_then replayed_by (record_parts signature (drop place bytes)) (p.batch, p.len) there.1 in
      let is = parts_there signature (drop place bytes) parts.0 parts.1 in
      let has = record_header_is (drop place bytes) parts.0.header is.header in
      let len_is = same_len (is_lz4_block parts.0.header.is_lz4 (length parts.0.block)) (items_from parts.0.items parts.0.block, parts.0.header.len) (p.batch, p.len) parts.2 in
      let forward = record_place-forward format.alignment bytes at in
      (omega (arith, there.0, forward), omega (arith, has.footer, has.len, len_is), omega (arith, there.0, has.footer, has.len, len_is, is.within, length-drop place bytes));
}
  where
    same_len : (lz4 : Bool) (x y : Batch × ℕ) → cond lz4 None (Some x) ≡ Some y → x.1 ≡ y.1
    same_len true x y e = cc
    same_len false x y e = ap (λ (z : Batch × ℕ). z.1) (same_some e)
