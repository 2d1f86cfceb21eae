-- What items add to the counters of the Rewrite queue.
use Rattle.std.specs.Prelude.{ℕ, ◌+◌, ◌-◌, List, [], ◌∷◌, Option, Some, if◌then◌else◌}
use Rattle.std.specs.Str.{bytes_eq}
use Rattle.raft_base.specs.declared.pipe_log.FileId.{FileId}
use Rattle.raft_base.specs.declared.pipe_log.LogQueue.TheVariants.{Rewrite}
use Rattle.raft_records.specs.Item.{Entries, Clean, Compact, Put, Delete, group_mark_key}
use Rattle.raft_records.specs.PlacedItem.{PlacedContent, EntriesAt, Plain, PlacedItem}
use Rattle.raft_records.specs.Validity.{are_in_order}
use Rattle.raft_tables.specs.Counters.{count_after, rewrite_count}
use Rattle.raft_tables.specs.Table.{TableView, rewritten_in, rewritten_value}
use Rattle.raft_tables.specs.Tables.{Tables, or_empty, table_after, tables_after_item}
use Rattle.raft_tables.specs.declared.stats.GlobalStats.{GlobalStats}

-- how many entries and values a change that stands in a file places in the Rewrite queue
abbrev pub placed_by : FileId → PlacedContent → ℕ
placed_by id (EntriesAt entries) = if are_in_order entries then rewrite_count entries else 0
placed_by id (Plain (Entries entries)) = 0
placed_by id (Plain Clean) = 0
placed_by id (Plain (Compact index)) = 0
placed_by id (Plain (Put key value)) =
    if bytes_eq key group_mark_key then 0 else rewritten_value (Some (value, id))
placed_by id (Plain (Delete key)) = 0

-- how many leave it: those that stood there and those that are placed there, less those that stand
-- there after the change
abbrev pub left_by : FileId → PlacedContent → Option TableView → ℕ
left_by id content t =
    rewritten_in (or_empty t) + placed_by id content
    - rewritten_in (or_empty (table_after id content t))

-- the counters after an item that stands in a file
abbrev pub stats_after_item : FileId → Tables → PlacedItem → GlobalStats → GlobalStats
stats_after_item id t item stats = record {
  rewritten = count_after Rewrite (placed_by id item.content) stats.rewritten;
  deleted = count_after Rewrite (left_by id item.content (t item.group)) stats.deleted;
}

-- the counters after items that stand in a file, in order
abbrev pub stats_after : FileId → Tables → List PlacedItem → GlobalStats → GlobalStats
stats_after id t [] stats = stats
stats_after id t (item ∷ items) stats =
    stats_after id (tables_after_item id t item) items (stats_after_item id t item stats)
