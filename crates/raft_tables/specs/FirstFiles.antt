-- The first file of a queue in which something stands: tables.
use Rattle.std.specs.Prelude.{◌≡◌, ℕ, ◌⊎◌, List, Some, fold}
use Rattle.std.specs.HashMap as hash
use Rattle.raft_base.specs.declared.pipe_log.FileId.{FileId}
use Rattle.raft_base.specs.declared.pipe_log.LogQueue.{LogQueue}
use Rattle.raft_tables.specs.EntryTable.{placed_entries}
use Rattle.raft_tables.specs.FirstFile.{HasEntryIn, first_of_entries, lesser_file}
use Rattle.raft_tables.specs.Table.{Keys, TableView, place_at}
use Rattle.raft_tables.specs.Tables.{Tables, or_empty}
use Rattle.raft_tables.specs.declared.memtable.MemTable.{MemTable}
use Rattle.raft_tables.specs.declared.memtables.MemTables.{MemTables}

-- the first file of a queue that has a value of these keys, or this bound
abbrev pub first_of_keys : LogQueue → ℕ → Keys → ℕ
first_of_keys queue at_most keys =
    fold (λ least s. lesser_file queue least s.id) at_most (hash.values keys)

-- the first file of a queue that a group refers to, or this bound
abbrev pub first_of_table : LogQueue → ℕ → MemTable → ℕ
first_of_table queue at_most t =
    first_of_keys queue (first_of_entries queue at_most (placed_entries t.entries)) t.keys

-- the first file of a queue that any group refers to, or this bound
abbrev pub first_of_tables : LogQueue → ℕ → MemTables → ℕ
first_of_tables queue at_most m =
    fold (λ least t. first_of_table queue least t) at_most (hash.values m.tables)

-- an entry or a value of a table stands in this file
abbrev pub StandsIn : FileId → TableView → Type 0
StandsIn id t = HasEntryIn id t.entries ⊎ ((key : List ℕ) × (place_at t key ≡ Some id))

-- an entry or a value of a group does
abbrev pub AnyStandsIn : FileId → Tables → Type 0
AnyStandsIn id t = (group : ℕ) × StandsIn id (or_empty (t group))
