-- Tables of one group in pairs, the older to be put below the newer.
use Rattle.std.specs.Prelude.{◌≡◌, ℕ, ◌+◌, ◌||◌, List, [], ◌∷◌, Option, None, Some, is_some, Result, Ok, Err, IfOk}
use Rattle.std.specs.List.{AllByRecursion}
use Rattle.std.specs.Option.{option_or}
use Rattle.std.specs.declared.alloc.AllocError.{AllocError}
use Rattle.raft_base.specs.declared.pipe_log.LogQueue.TheVariants.{Rewrite}
use Rattle.raft_records.specs.Contents.{with_entries}
use Rattle.raft_tables.specs.Counters.{count_after}
use Rattle.raft_tables.specs.Recovering.{IsTableJoined, rewritten_total}
use Rattle.raft_tables.specs.Table.{TableView, empty_table, rewritten_in, table_of}
use Rattle.raft_tables.specs.Tables.{Tables, or_empty, tables_of, with_table}
use Rattle.raft_tables.specs.declared.memtable.MemTable.{MemTable}
use Rattle.raft_tables.specs.declared.memtables.MemTables.{MemTables}
use Rattle.raft_tables.specs.declared.pairs.Pair.{Pair}

-- the older table of a pair, as a view
abbrev pub older_table : Pair → TableView
older_table p = table_of p.older

-- the newer table of a pair, as a view
abbrev pub newer_table : Pair → TableView
newer_table p = table_of p.newer

-- the tables, with those of pairs over them
abbrev pub over : (Pair → TableView) → List Pair → Tables → Tables
over table [] t = t
over table (p ∷ ps) t = with_table p.group (Some (table p)) (over table ps t)

-- one group's table has the entries and keys of the newer over those of the older
pub record IsJoinedAt (older newer joined : Option TableView) : Type 0 where
  pub entries : (or_empty joined).entries
      ≡ with_entries (or_empty older).entries (or_empty newer).entries
  pub keys :
      (key : List ℕ) → (or_empty joined).keys key
      ≡ option_or ((or_empty newer).keys key) ((or_empty older).keys key)
  pub known : is_some joined ≡ (is_some older || is_some newer)

-- what joins the pairs over these tables joins the older tables and the newer ones
abbrev pub ArePaired : Tables → Tables → List Pair → Tables → Type 0
ArePaired older newer pairs t =
    (group : ℕ) (joined : Option TableView)
    → IsJoinedAt (over older_table pairs (λ g. None) group) (over newer_table pairs t group) joined
    → IsJoinedAt (older group) (newer group) joined

-- the older table was paired with that of its group, which is empty since, or it is the group's now
abbrev pub IsPaired : ℕ → MemTable → MemTables → MemTables → Option Pair → Type 0
IsPaired group older m n None =
    (tables_of m group ≡ None)
    × (tables_of n ≡ with_table group (Some (table_of older)) (tables_of m))
    × (rewritten_total n ≡ rewritten_in (table_of older) + rewritten_total m)
IsPaired group older m n (Some p) =
    (p.group ≡ group) × (p.older ≡ older) × (tables_of m group ≡ Some (table_of p.newer))
    × (tables_of n ≡ with_table group (Some empty_table) (tables_of m))
    × (rewritten_in (table_of p.newer) + rewritten_total n ≡ rewritten_total m)

-- the older table was put below the newer, where memory sufficed
pub record IsPairJoined (before after : Pair) : Type 0 where
  pub group : after.group ≡ before.group
  pub ok : IfOk after.left (λ left.
      IsTableJoined (Some (older_table before)) (Some (newer_table before)) (newer_table after)
      × (left + rewritten_in (newer_table after)
      ≡ rewritten_in (older_table before) + rewritten_in (newer_table before)))

-- it did
abbrev pub WasJoined : Pair → Type 0
WasJoined p = (left : ℕ) × (p.left ≡ Ok left)

-- how many left; none if memory ran out
abbrev pub left_of_result : Result ℕ AllocError → ℕ
left_of_result (Ok left) = left
left_of_result (Err e) = 0

-- how many entries and values of both tables stand in the Rewrite queue
abbrev pub paired_total : List Pair → ℕ
paired_total [] = 0
paired_total (p ∷ ps) =
    rewritten_in (older_table p) + rewritten_in (newer_table p) + paired_total ps

-- how many entries and values of joined tables are in the Rewrite queue, with those that left
abbrev pub joined_total : List Pair → ℕ
joined_total [] = 0
joined_total (p ∷ ps) =
    left_of_result p.left + rewritten_in (newer_table p) + joined_total ps

-- all of these were joined, and stand in the tables now; so many left the Rewrite queue
pub record ArePut (pairs : List Pair) (m n : MemTables) (left : ℕ) : Type 0 where
  pub joined : AllByRecursion WasJoined pairs
  pub tables : tables_of n ≡ over newer_table pairs (tables_of m)
  pub count : ℕ
  pub left_is : left ≡ count_after Rewrite count 0
  pub total : count + rewritten_total n ≡ joined_total pairs + rewritten_total m
