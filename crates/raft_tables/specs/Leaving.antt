-- What the Append queue's items leave alone of the Rewrite queue's tables.
use Rattle.std.specs.Prelude.{ℕ, ◌-◌, nat_le, List, [], ◌∷◌, filter, fold, Option, None, option_map, if◌then◌else◌}
use Rattle.std.specs.Str.{bytes_eq}
use Rattle.raft_base.specs.declared.pipe_log.LogQueue.TheVariants.{Rewrite}
use Rattle.raft_records.specs.Contents.{Contents, entries_below}
use Rattle.raft_records.specs.Item.{Batch, Entries, Clean, Compact, Put, Delete, group_mark_key}
use Rattle.raft_records.specs.PlacedItem.{PlacedContent, EntriesAt, Plain, PlacedItem}
use Rattle.raft_records.specs.Validity.{are_in_order}
use Rattle.raft_recovery_laws.specs.Recovered.{leaves, leaves_key}
use Rattle.raft_tables.specs.Counters.{count_after}
use Rattle.raft_tables.specs.Table.{TableView, rewritten_in, with_entries_at, with_key}
use Rattle.raft_tables.specs.Tables.{Tables, or_empty, with_table}
use Rattle.raft_tables.specs.declared.stats.GlobalStats.{GlobalStats}

-- what a change of its group leaves of a table: the entries that it doesn't cut off or compact and
-- the keys that it neither sets nor deletes
abbrev pub table_left : PlacedContent → Option TableView → Option TableView
table_left (EntriesAt []) t = t
table_left (EntriesAt (e ∷ es)) t =
    if are_in_order (e ∷ es)
    then option_map (λ v. with_entries_at (entries_below e.0 v.entries) v) t
    else t
table_left (Plain (Entries entries)) t = t
table_left (Plain Clean) t = None
table_left (Plain (Compact index)) t =
    option_map (λ v. with_entries_at (filter (λ e. nat_le index e.0) v.entries) v) t
table_left (Plain (Put key value)) t =
    if bytes_eq key group_mark_key then t else option_map (with_key key None) t
table_left (Plain (Delete key)) t = option_map (with_key key None) t

-- what an item leaves of the tables
abbrev pub tables_left_by : Tables → PlacedItem → Tables
tables_left_by t item = with_table item.group (table_left item.content (t item.group)) t

-- what items leave of the tables, in order
abbrev pub tables_left : Tables → List PlacedItem → Tables
tables_left t items = fold tables_left_by t items

-- how many entries and values of a table in the Rewrite queue a change takes
abbrev pub taken_by : PlacedContent → Option TableView → ℕ
taken_by content t = rewritten_in (or_empty t) - rewritten_in (or_empty (table_left content t))

-- the counters after what an item takes of the tables
abbrev pub stats_taken_by : Tables → PlacedItem → GlobalStats → GlobalStats
stats_taken_by t item stats = record {
  rewritten = stats.rewritten;
  deleted = count_after Rewrite (taken_by item.content (t item.group)) stats.deleted;
}

-- the counters after what items take of the tables, in order
abbrev pub stats_taken : Tables → List PlacedItem → GlobalStats → GlobalStats
stats_taken t [] stats = stats
stats_taken t (item ∷ items) stats =
    stats_taken (tables_left_by t item) items (stats_taken_by t item stats)

-- what batches of the Append queue leave alone of contents
abbrev pub left_alone : List Batch → Contents → Contents
left_alone batches x = record {
  entries = λ g. filter (λ e. leaves batches g e.0) (x.entries g);
  value = λ g k. if leaves_key batches g k then x.value g k else None;
}
