-- A batch of items that are written to the Rewrite queue again.
use Rattle.std.proofs.Common.{◌≡◌, ℕ, ◌&&◌, true, false, List, [], ◌∷◌, map, Option, ap}
use Rattle.std.specs.List.{list_all}
use Rattle.std.proofs.lemmas.Bool.{and_parts}
use Rattle.raft_records.specs.Contents.{Contents, after_batch, after_item}
use Rattle.raft_records.specs.Item.{Entries, Clean, Compact, Put, Delete}
use Rattle.raft_records.specs.PlacedItem.{PlacedContent, EntriesAt, Plain, PlacedItem, content_in, item_in}
use Rattle.raft_records.specs.Places.{Blocks}
use Rattle.raft_recovery_laws.specs.Consecutive.{HasConsecutiveEntries, HaveConsecutiveEntries, content_is_consecutive}
use Rattle.raft_recovery_laws.specs.Rewriting.{ChangesNothing, EachChangesNothing}
use Rattle.raft_recovery_laws.proofs.ContentsLemmas.{after_batches_consecutive, consecutive_one}
use Rattle.raft_tables.specs.Moving.{tables_moved, tables_moved_by}
use Rattle.raft_tables.specs.Owed.{Owed}
use Rattle.raft_tables.specs.Tables.{Tables}
use Rattle.raft_index_laws.specs.Rewriting.{MayAllBeWritten, MayWriteAgain}
use Rattle.raft_records.specs.FileBatches.{FileBatch, batches_of}
use Rattle.raft_index_laws.specs.Standing.{TablesStandFor}
use Rattle.raft_index_laws.proofs.KeyLemmas.{in_rewrite}
use Rattle.raft_index_laws.proofs.MarkedLemmas.{value_rewritten}
use Rattle.raft_index_laws.proofs.RewrittenLemmas.{entries_rewritten}

one_again : (blocks : Blocks) (x : Contents) (appended : List FileBatch) (owed : Owed) (t : Tables) (watermark : Option ℕ) (seq group : ℕ) (c : PlacedContent)
    → HasConsecutiveEntries x → HaveConsecutiveEntries (batches_of appended) → (owed group).cleaned ≡ false → MayWriteAgain watermark blocks t group c → TablesStandFor blocks x appended owed t
    → ChangesNothing x (batches_of appended) (record { group = group; content = content_in blocks c })
    × TablesStandFor blocks (after_item x (record { group = group; content = content_in blocks c })) appended owed (tables_moved_by watermark (in_rewrite seq) t (record { group = group; content = c }))
one_again blocks x appended owed t watermark seq group (EntriesAt []) run_x run clean may stands = absurd may
one_again blocks x appended owed t watermark seq group (EntriesAt (n ∷ ns)) run_x run clean may stands = entries_rewritten blocks x appended owed t watermark (in_rewrite seq) group n ns run_x run clean may stands
one_again blocks x appended owed t watermark seq group (Plain (Entries entries)) run_x run clean may stands = absurd may
one_again blocks x appended owed t watermark seq group (Plain Clean) run_x run clean may stands = absurd may
one_again blocks x appended owed t watermark seq group (Plain (Compact index)) run_x run clean may stands = absurd may
one_again blocks x appended owed t watermark seq group (Plain (Put key value)) run_x run clean may stands = value_rewritten blocks x appended owed t watermark seq group key value clean may stands
one_again blocks x appended owed t watermark seq group (Plain (Delete key)) run_x run clean may stands = absurd may

pub all_again : (blocks : Blocks) (x : Contents) (appended : List FileBatch) (owed : Owed) (t : Tables) (watermark : Option ℕ) (seq : ℕ) (items : List PlacedItem)
    → HasConsecutiveEntries x → HaveConsecutiveEntries (batches_of appended) → list_all (λ item. content_is_consecutive item.content) (map (item_in blocks) items) ≡ true
    → MayAllBeWritten watermark (in_rewrite seq) blocks owed t items → TablesStandFor blocks x appended owed t
    → EachChangesNothing x (batches_of appended) (map (item_in blocks) items)
    × TablesStandFor blocks (after_batch x (map (item_in blocks) items)) appended owed (tables_moved watermark (in_rewrite seq) t items)
all_again blocks x appended owed t watermark seq [] run_x run runs may stands = (tt, stands)
all_again blocks x appended owed t watermark seq (item ∷ items) run_x run runs may stands =
    let i = item_in blocks item in
    let both = and_parts (content_is_consecutive i.content) (list_all (λ j. content_is_consecutive j.content) (map (item_in blocks) items)) runs in
    let here = one_again blocks x appended owed t watermark seq item.group item.content run_x run may.0 may.1 stands in
    let next_run : HasConsecutiveEntries (after_item x i) = after_batches_consecutive x ((i ∷ []) ∷ []) run_x (consecutive_one (i ∷ []) (ap (λ b. b && true) both.0)) in
    let rest = all_again blocks (after_item x i) appended owed (tables_moved_by watermark (in_rewrite seq) t item) watermark seq items next_run run both.1 may.2 here.1 in
    ((here.0, rest.0), rest.1)
