-- The items of a record stand in the file of its block.
use Rattle.std.proofs.Common.{◌≡◌, ℕ, ◌+◌, ◌&&◌, true, List, [], ◌∷◌, length, Some, refl, ◌∙◌, ap}
use Rattle.std.specs.List.{AllByRecursion as Each, list_all}
use Rattle.raft_base.specs.declared.pipe_log.FileBlockHandle.{FileBlockHandle}
use Rattle.raft_base.specs.declared.pipe_log.LogQueue.TheVariants.{Rewrite}
use Rattle.raft_records.specs.FileBatches.{AreInFile, IsInFile}
use Rattle.raft_records.specs.Item.{Batch, Content, Entries, Entry, Clean, Compact, Put, Delete}
use Rattle.raft_records.specs.Layout.{place_content, place_entries, place_items}
use Rattle.raft_records.specs.PlacedItem.{are_all_placed}
use Rattle.raft_records.specs.Record.{entry_bytes_of}
use Rattle.raft_tables.specs.Counters.{is_rewrite, is_rewritten}

entries_in_file : (block : FileBlockHandle) (offset : ℕ) (es : List Entry) → Each (IsInFile block.id.queue block.id.seq) (place_entries (Some block) offset es)
entries_in_file block offset [] = tt
entries_in_file block offset (e ∷ es) = ((block, refl, refl, refl), entries_in_file block (offset + length e.1) es)

content_in_file : (block : FileBlockHandle) (offset : ℕ) (c : Content) → AreInFile block.id.queue block.id.seq (place_content (Some block) offset c)
content_in_file block offset (Entries es) = entries_in_file block offset es
content_in_file block offset Clean = tt
content_in_file block offset (Compact index) = tt
content_in_file block offset (Put key value) = tt
content_in_file block offset (Delete key) = tt

pub items_in_file : (block : FileBlockHandle) (offset : ℕ) (batch : Batch) → Each (λ item. AreInFile block.id.queue block.id.seq item.content) (place_items (Some block) offset batch)
items_in_file block offset [] = tt
items_in_file block offset (i ∷ batch) = (content_in_file block offset i.content, items_in_file block (offset + length (entry_bytes_of i.content)) batch)

entries_rewritten : (block : FileBlockHandle) (offset : ℕ) (es : List Entry) → block.id.queue ≡ Rewrite → list_all (λ e. is_rewritten e.1) (place_entries (Some block) offset es) ≡ true
entries_rewritten block offset [] is = refl
entries_rewritten block offset (e ∷ es) is = ap (λ q. is_rewrite q && list_all (λ x. is_rewritten x.1) (place_entries (Some block) (offset + length e.1) es)) is ∙ entries_rewritten block (offset + length e.1) es is

content_rewritten : (block : FileBlockHandle) (offset : ℕ) (c : Content) → block.id.queue ≡ Rewrite → are_all_placed is_rewritten (place_content (Some block) offset c) ≡ true
content_rewritten block offset (Entries es) is = entries_rewritten block offset es is
content_rewritten block offset Clean is = refl
content_rewritten block offset (Compact index) is = refl
content_rewritten block offset (Put key value) is = refl
content_rewritten block offset (Delete key) is = refl

pub items_rewritten : (block : FileBlockHandle) (offset : ℕ) (batch : Batch) → block.id.queue ≡ Rewrite → list_all (λ item. are_all_placed is_rewritten item.content) (place_items (Some block) offset batch) ≡ true
items_rewritten block offset [] is = refl
items_rewritten block offset (i ∷ batch) is =
    ap (λ b. b && list_all (λ item. are_all_placed is_rewritten item.content) (place_items (Some block) (offset + length (entry_bytes_of i.content)) batch)) (content_rewritten block offset i.content is)
    ∙ items_rewritten block (offset + length (entry_bytes_of i.content)) batch is
