-- What is written to the Rewrite queue again gets its new place: tables.
use Rattle.std.specs.Prelude.{ℕ, ◌+◌, ◌-◌, List, [], ◌∷◌, fold, Option, Some, None, option_map, option_and_then, if◌then◌else◌}
use Rattle.std.specs.Str.{bytes_eq}
use Rattle.raft_base.specs.declared.pipe_log.FileId.{FileId}
use Rattle.raft_base.specs.declared.pipe_log.LogQueue.TheVariants.{Rewrite}
use Rattle.raft_records.specs.Item.{Entries, Clean, Compact, Put, Delete, group_mark_key}
use Rattle.raft_records.specs.PlacedItem.{PlacedContent, EntriesAt, Plain, PlacedItem}
use Rattle.raft_tables.specs.Counters.{count_after}
use Rattle.raft_tables.specs.MovedEntries.{entries_moved, may_move, places_taken}
use Rattle.raft_tables.specs.Table.{StoredValue, TableView, rewritten_in, rewritten_value, with_entries_at, with_key}
use Rattle.raft_tables.specs.Tables.{Tables, or_empty, with_table}
use Rattle.raft_tables.specs.declared.stats.GlobalStats.{GlobalStats}

-- the value with its new file, where it may get it
abbrev pub value_moved : Option ℕ → FileId → StoredValue → StoredValue
value_moved watermark id stored = if may_move watermark stored.1 then (stored.0, id) else stored

-- a group's table after a change of it was written to a file of the Rewrite queue
abbrev pub table_moved : Option ℕ → FileId → PlacedContent → Option TableView → Option TableView
table_moved watermark id (EntriesAt new) t =
    option_map (λ v. with_entries_at (entries_moved watermark new v.entries) v) t
table_moved watermark id (Plain (Entries entries)) t = t
table_moved watermark id (Plain Clean) t = t
table_moved watermark id (Plain (Compact index)) t = t
table_moved watermark id (Plain (Put key value)) t =
    if bytes_eq key group_mark_key then t
    else option_map (λ v. with_key key (option_map (value_moved watermark id) (v.keys key)) v) t
table_moved watermark id (Plain (Delete key)) t = t

-- the tables after an item that was written again
abbrev pub tables_moved_by : Option ℕ → FileId → Tables → PlacedItem → Tables
tables_moved_by watermark id t item =
    with_table item.group (table_moved watermark id item.content (t item.group)) t

-- the tables after items that were written again, in order
abbrev pub tables_moved : Option ℕ → FileId → Tables → List PlacedItem → Tables
tables_moved watermark id t items = fold (tables_moved_by watermark id) t items

-- the value of a key, where it may get a new file
abbrev pub value_to_move : Option ℕ → TableView → List ℕ → Option (List ℕ)
value_to_move watermark t key = option_and_then
    (λ stored. if may_move watermark stored.1 then Some stored.0 else None) (t.keys key)

-- how many values of one key get this file, where it is one of the Rewrite queue: 1 or 0
abbrev pub values_taken : Option ℕ → FileId → Option StoredValue → ℕ
values_taken watermark id None = 0
values_taken watermark id (Some stored) =
    if may_move watermark stored.1 then rewritten_value (Some (stored.0, id)) else 0

-- how many entries and values of a table a change that was written again places in the Rewrite queue
abbrev pub placed_again : Option ℕ → FileId → PlacedContent → Option TableView → ℕ
placed_again watermark id (EntriesAt new) t = places_taken watermark new (or_empty t).entries
placed_again watermark id (Plain (Entries entries)) t = 0
placed_again watermark id (Plain Clean) t = 0
placed_again watermark id (Plain (Compact index)) t = 0
placed_again watermark id (Plain (Put key value)) t =
    if bytes_eq key group_mark_key then 0 else values_taken watermark id ((or_empty t).keys key)
placed_again watermark id (Plain (Delete key)) t = 0

-- how many leave a place there: those that stood there and those that are placed there, less those
-- that stand there after the change
abbrev pub left_again : Option ℕ → FileId → PlacedContent → Option TableView → ℕ
left_again watermark id content t =
    rewritten_in (or_empty t) + placed_again watermark id content t
    - rewritten_in (or_empty (table_moved watermark id content t))

-- the counters after an item that was written again
abbrev pub stats_moved_by : Option ℕ → FileId → Tables → PlacedItem → GlobalStats → GlobalStats
stats_moved_by watermark id t item stats = record {
  rewritten =
      count_after Rewrite (placed_again watermark id item.content (t item.group)) stats.rewritten;
  deleted =
      count_after Rewrite (left_again watermark id item.content (t item.group)) stats.deleted;
}

-- the counters after items that were written again, in order
abbrev pub stats_moved : Option ℕ → FileId → Tables → List PlacedItem → GlobalStats → GlobalStats
stats_moved watermark id t [] stats = stats
stats_moved watermark id t (item ∷ items) stats =
    stats_moved watermark id (tables_moved_by watermark id t item) items
    (stats_moved_by watermark id t item stats)
