-- How many bytes the entries of a record have.
use Rattle.std.proofs.Common.{◌≡◌, ℕ, ◌+◌, ◌-◌, ◌≤◌, ◌==◌, ◌||◌, min, Bool, true, false, cond, List, [], ◌∷◌, length, take, drop, option_map, Option, Some, arith, sym, ◌∙◌, ap, length-append, length-drop, length-take-le}
use Rattle.std.specs.List.{flat_map, sum}
use Rattle.std.proofs.lemmas.Bool.{and_parts}
use Rattle.std.proofs.lemmas.Bool.Decides.{nat_tests}
use Rattle.std.proofs.lemmas.List.{length-take}
use Rattle.std.proofs.lemmas.List.Sums.{sum_by-cons}
use Rattle.raft_base.specs.declared.pipe_log.FileBlockHandle.{FileBlockHandle}
use Rattle.raft_base.specs.declared.pipe_log.FileId.{FileId}
use Rattle.raft_base.specs.declared.pipe_log.LogQueue.TheVariants.{Append}
use Rattle.raft_records.specs.Item.{Entry, Entries, Clean, Compact, Put, Delete}
use Rattle.raft_records.specs.ItemBatch.{block_of_record, locate_content, locate_items, locate_parts}
use Rattle.raft_records.specs.Layout.{entry_bytes}
use Rattle.raft_records.specs.PlacedItem.{is_placed_in_order}
use Rattle.raft_records.specs.Record.{Stored, Indexes, Other, Parts, content_from, entries_from, entries_len, entry_bytes_of, fills_block, is_lz4_block, items_from, record_parts, stored_len}
use Rattle.raft_records.proofs.OrderLemmas.{are_ordered, placed_record-ordered}
use Rattle.raft_files.specs.Replay.{block_after}
use Rattle.raft_files.proofs.ScanExtentLemmas.{parts_there, record_header_is}

-- entries that are cut from bytes have as many as their lengths tell, as far as the bytes go
length-entries_from : (first : ℕ) (lengths bytes : List ℕ) → length (flat_map (λ (e : Entry). e.1) (entries_from first lengths bytes)) ≡ min (sum lengths) (length bytes)
length-entries_from first [] bytes = omega arith
length-entries_from first (n ∷ lengths) bytes = omega (
  arith,
  length-append (take n bytes) (flat_map (λ (e : Entry). e.1) (entries_from (first + 1) lengths (drop n bytes))),
  length-take n bytes,
  length-drop n bytes,
  length-entries_from (first + 1) lengths (drop n bytes),
  sum_by-cons (λ (x : ℕ). x) n lengths,
)

length-entry_bytes : (block : FileBlockHandle) (lz4 : Bool) (offset : ℕ) (items : List (ℕ × Stored)) (bytes : List ℕ) → are_ordered (locate_items block lz4 offset items) ≡ true → length (entry_bytes (items_from items bytes)) ≡ min (entries_len items) (length bytes)
length-entry_bytes block lz4 offset [] bytes ordered = omega arith
length-entry_bytes block lz4 offset (i ∷ items) bytes ordered =
    let parts = and_parts (is_placed_in_order (locate_content block lz4 offset i.1)) (are_ordered (locate_items block lz4 (offset + stored_len i.1) items)) ordered in
    omega (
      arith,
      length-append (entry_bytes_of (content_from i.1 bytes)) (entry_bytes (items_from items (drop (stored_len i.1) bytes))),
      length-drop (stored_len i.1) bytes,
      by_stored i.1 parts.0,
      length-entry_bytes block lz4 (offset + stored_len i.1) items (drop (stored_len i.1) bytes) parts.1,
      sum_by-cons (λ (x : ℕ × Stored). stored_len x.1) i items,
    )
  where
    by_stored : (s : Stored) → is_placed_in_order (locate_content block lz4 offset s) ≡ true → length (entry_bytes_of (content_from s bytes)) ≡ min (stored_len s) (length bytes)
    by_stored (Indexes first lengths) e = length-entries_from first lengths bytes
    by_stored (Other (Entries es)) e = cc
    by_stored (Other Clean) e = omega arith
    by_stored (Other (Compact index)) e = omega arith
    by_stored (Other (Put key value)) e = omega arith
    by_stored (Other (Delete key)) e = omega arith

-- a file, whichever
abbrev some_file : FileId
some_file = record { queue = Append; seq = 1 }

-- the entries of a record's parts
pub length-parts : (signature : Option ℕ) (bytes : List ℕ) (p : Parts) → record_parts signature bytes ≡ Some p → length (entry_bytes (items_from p.items p.block)) ≡ min (entries_len p.items) (length p.block)
length-parts signature bytes p found =
    length-entry_bytes (block_of_record some_file 0 p.header) p.header.is_lz4 0 p.items p.block
    (placed_record-ordered signature some_file 0 bytes (locate_items (block_of_record some_file 0 p.header) p.header.is_lz4 0 p.items) p.header.len (ap (option_map (locate_parts some_file 0)) found))

filled_room : (items : List (ℕ × Stored)) (size : ℕ) → fills_block items size ≡ true → entries_len items ≤ size
filled_room items size fills = by_len (entries_len items) fills
  where
    by_len : (len : ℕ) → cond (len == 0) (size == 0) (size == len + 4) ≡ true → len ≤ size
    by_len len e = grind (arith, nat_tests)

second_of : (a b : Bool) → a ≡ false → (a || b) ≡ true → b ≡ true
second_of true b none some = cc
second_of false b none some = some

-- .. whose block isn't compressed, fill it
pub length-parts-whole : (signature : Option ℕ) (bytes : List ℕ) (p : Parts) → record_parts signature bytes ≡ Some p → is_lz4_block p.header.is_lz4 (length p.block) ≡ false → length (entry_bytes (items_from p.items p.block)) ≡ entries_len p.items
length-parts-whole signature bytes p found unmarked =
    let there = parts_there signature bytes p found in
    let header = record_header_is bytes p.header there.header in
    let block : take (p.header.footer - 16) (drop 16 bytes) ≡ p.block = sym (ap (block_after bytes) there.header) ∙ there.block in
    let size : length p.block ≡ p.header.footer - 16 = sym (ap length block) ∙ length-take-le (p.header.footer - 16) (drop 16 bytes) (omega (arith, length-drop 16 bytes, header.footer, header.len, there.within)) in
    let fills = second_of (is_lz4_block p.header.is_lz4 (p.header.footer - 16)) (fills_block p.items (p.header.footer - 16)) (ap (is_lz4_block p.header.is_lz4) (sym size) ∙ unmarked) there.fills in
    omega (arith, length-parts signature bytes p found, filled_room p.items (p.header.footer - 16) fills, size)
