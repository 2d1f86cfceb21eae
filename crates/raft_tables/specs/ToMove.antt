-- How many bytes are written where what a group has is written again.
use Rattle.std.specs.Prelude.{ℕ, ◌+◌, ◌-◌, nat_eq, nat_le, List, Option, Some, None, length, option_map, unwrap_or, if◌then◌else◌}
use Rattle.std.specs.HashMap as hash
use Rattle.std.specs.List.{sum_by}
use Rattle.raft_records.specs.declared.entry_index.EntryPlace.{EntryPlace}
use Rattle.raft_tables.specs.EntryTable.{placed_entries}
use Rattle.raft_tables.specs.MovedEntries.{may_move, may_move_from}
use Rattle.raft_tables.specs.declared.memtable.MemTable.{MemTable}
use Rattle.raft_tables.specs.declared.memtable.Stored.{Stored}
use Rattle.raft_tables.specs.declared.memtables.MemTables.{MemTables}

-- an entry's bytes, if it may get a new place
abbrev pub entry_bytes : Option ℕ → EntryPlace → ℕ
entry_bytes watermark place = if may_move_from watermark place then place.len else 0

-- a value's
abbrev pub value_bytes : Option ℕ → Stored → ℕ
value_bytes watermark s = if may_move watermark s.id then length s.value.items else 0

-- those of entries
abbrev pub bytes_of_entries : Option ℕ → List (ℕ × EntryPlace) → ℕ
bytes_of_entries watermark es = sum_by (λ e. entry_bytes watermark e.1) es

-- how many bytes of a table a rewriting up to the watermark moves
abbrev pub bytes_of_table : Option ℕ → MemTable → ℕ
bytes_of_table watermark t = bytes_of_entries watermark (placed_entries t.entries)
    + sum_by (value_bytes watermark) (hash.values t.keys)

-- how many bytes of a group such a rewriting moves; none of an unknown group
abbrev pub bytes_of_group : Option ℕ → MemTables → ℕ → ℕ
bytes_of_group watermark m group =
    unwrap_or (option_map (bytes_of_table watermark) (hash.get nat_eq m.tables group)) 0

-- what is left of a budget behind so many bytes, if it suffices
abbrev pub left_of : ℕ → ℕ → Option ℕ
left_of budget bytes = if nat_le bytes budget then Some (budget - bytes) else None
