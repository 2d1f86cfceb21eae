-- Nothing stands before the first file in which something stands.
use Rattle.std.proofs.Common.{◌≡◌, ℕ, ◌≤◌, Bool, true, false, cond, nat_eq, List, [], ◌∷◌, fold, Option, Some, None, Vec, arith}
use Rattle.std.specs.List.{AllByRecursion as Each}
use Rattle.std.specs.Map.{lookup, values_of}
use Rattle.std.specs.Option.{option_map}
use Rattle.std.specs.Prelude.{unwrap_or}
use Rattle.std.specs.Str.{bytes_eq}
use Rattle.std.specs.declared.alloc.Global.{Global}
use Rattle.raft_base.specs.declared.pipe_log.FileBlockHandle.{FileBlockHandle}
use Rattle.raft_base.specs.declared.pipe_log.LogQueue.{LogQueue}
use Rattle.raft_base.specs.declared.pipe_log.LogQueue.TheVariants.{Append, Rewrite}
use Rattle.raft_records.specs.declared.entry_index.EntryPlace.{EntryPlace}
use Rattle.raft_tables.specs.EntryTable.{placed_entries}
use Rattle.raft_tables.specs.FirstFile.{first_of_entries, lesser_file, lesser_in, lesser_place}
use Rattle.raft_tables.specs.FirstFiles.{first_of_table, first_of_tables}
use Rattle.raft_tables.specs.Table.{StoredValue, TableView, table_of}
use Rattle.raft_tables.specs.Tables.{or_empty, tables_of}
use Rattle.raft_tables.specs.declared.memtable.MemTable.{MemTable}
use Rattle.raft_tables.specs.declared.memtable.Stored.{Stored}
use Rattle.raft_tables.specs.declared.memtables.MemTables.{MemTables}
use Rattle.raft_index_laws.specs.Standing.{AreEntriesPlacedFrom, AreKeysPlacedFrom, IsEntryPlacedFrom, IsPlacedFrom}
use Rattle.raft_recovery_laws.proofs.EachLemmas.{each_map}
use Rattle.raft_index_laws.specs.DroppingOld.{AreRewrittenFrom, IsRewrittenFrom, IsValueRewrittenFrom}

-- a place, if it is one of the queue, isn't in a file before this one
abbrev IsFrom : LogQueue → ℕ → Option FileBlockHandle → Type 0
IsFrom q first None = Unit {0}
IsFrom q first (Some block) = block.id.queue ≡ q → first ≤ block.id.seq

abbrev IsValueFrom : LogQueue → ℕ → Option StoredValue → Type 0
IsValueFrom q first None = Unit {0}
IsValueFrom q first (Some stored) = stored.1.queue ≡ q → first ≤ stored.1.seq

low : (q queue : LogQueue) (least seq : ℕ) → lesser_in q queue least seq ≤ least
low Append Append least seq = omega arith
low Append Rewrite least seq = omega arith
low Rewrite Append least seq = omega arith
low Rewrite Rewrite least seq = omega arith

found : (q queue : LogQueue) (least seq : ℕ) → queue ≡ q → lesser_in q queue least seq ≤ seq
found Append Append least seq is = omega arith
found Append Rewrite least seq is = absurd (let clash = is in cc)
found Rewrite Append least seq is = absurd (let clash = is in cc)
found Rewrite Rewrite least seq is = omega arith

-- entries

place_low : (q : LogQueue) (least : ℕ) (block : Option FileBlockHandle) → unwrap_or (option_map (λ (b : FileBlockHandle). lesser_file q least b.id) block) least ≤ least
place_low q least None = omega arith
place_low q least (Some block) = low q block.id.queue least block.id.seq

place_from : (q : LogQueue) (least : ℕ) (block : Option FileBlockHandle) → IsFrom q (unwrap_or (option_map (λ (b : FileBlockHandle). lesser_file q least b.id) block) least) block
place_from q least None = tt
place_from q least (Some block) = λ is. found q block.id.queue least block.id.seq is

lower_place : (q : LogQueue) (a b : ℕ) (block : Option FileBlockHandle) → a ≤ b → IsFrom q b block → IsFrom q a block
lower_place q a b None le from = tt
lower_place q a b (Some block) le from = λ is. let h = from is in omega (arith, le, h)

entries_low : (q : LogQueue) (least : ℕ) (es : List (ℕ × EntryPlace)) → first_of_entries q least es ≤ least
entries_low q least [] = omega arith
entries_low q least (e ∷ es) = omega (arith, entries_low q (lesser_place q least e.1) es, place_low q least e.1.block)

entries_from : (q : LogQueue) (least : ℕ) (es : List (ℕ × EntryPlace)) → Each (λ e. IsFrom q (first_of_entries q least es) e.1.block) es
entries_from q least [] = tt
entries_from q least (e ∷ es) =
    let next = lesser_place q least e.1 in
    (lower_place q (first_of_entries q next es) next e.1.block (entries_low q next es) (place_from q least e.1.block), entries_from q next es)

-- values

lower_value : (q : LogQueue) (a b : ℕ) (s : Option StoredValue) → a ≤ b → IsValueFrom q b s → IsValueFrom q a s
lower_value q a b None le from = tt
lower_value q a b (Some s) le from = λ is. let h = from is in omega (arith, le, h)

values_low : (q : LogQueue) (least : ℕ) (ss : List Stored) → fold (λ l s. lesser_file q l s.id) least ss ≤ least
values_low q least [] = omega arith
values_low q least (s ∷ ss) = omega (arith, values_low q (lesser_file q least s.id) ss, low q s.id.queue least s.id.seq)

values_from : (q : LogQueue) (least : ℕ) (es : List (Vec ℕ Global × Stored)) (k : List ℕ)
    → IsValueFrom q (fold (λ l s. lesser_file q l s.id) least (values_of es)) (option_map (λ (s : Stored). (s.value.items, s.id)) (lookup (λ (x : Vec ℕ Global). bytes_eq k x.items) es))
values_from q least [] k = tt
values_from q least (e ∷ es) k = at (bytes_eq k e.0.items) (values_from q (lesser_file q least e.1.id) es k)
  where
    rest : ℕ
    rest = fold (λ l s. lesser_file q l s.id) (lesser_file q least e.1.id) (values_of es)

    at : (b : Bool) → IsValueFrom q rest (option_map (λ (s : Stored). (s.value.items, s.id)) (lookup (λ (x : Vec ℕ Global). bytes_eq k x.items) es))
        → IsValueFrom q rest (option_map (λ (s : Stored). (s.value.items, s.id)) (cond b (Some e.1) (lookup (λ (x : Vec ℕ Global). bytes_eq k x.items) es)))
    at true later = λ is. let h = found q e.1.id.queue least e.1.id.seq is in omega (arith, h, values_low q (lesser_file q least e.1.id) (values_of es))
    at false later = later

-- tables

table_low : (q : LogQueue) (least : ℕ) (t : MemTable) → first_of_table q least t ≤ least
table_low q least t = omega (arith, values_low q (first_of_entries q least (placed_entries t.entries)) (values_of t.keys.entries), entries_low q least (placed_entries t.entries))

tables_low : (q : LogQueue) (least : ℕ) (ts : List MemTable) → fold (λ l t. first_of_table q l t) least ts ≤ least
tables_low q least [] = omega arith
tables_low q least (t ∷ ts) = omega (arith, tables_low q (first_of_table q least t) ts, table_low q least t)

table_entries : (q : LogQueue) (first least : ℕ) (t : MemTable) → first ≤ first_of_table q least t → Each (λ e. IsFrom q first e.1.block) (table_of t).entries
table_entries q first least t le =
    let at = first_of_entries q least (placed_entries t.entries) in
    each_map (λ (e : ℕ × EntryPlace). IsFrom q at e.1.block) (λ (e : ℕ × EntryPlace). IsFrom q first e.1.block) (placed_entries t.entries)
    (λ e from. lower_place q first at e.1.block (omega (arith, le, values_low q at (values_of t.keys.entries))) from) (entries_from q least (placed_entries t.entries))

table_keys : (q : LogQueue) (first least : ℕ) (t : MemTable) (k : List ℕ) → first ≤ first_of_table q least t → IsValueFrom q first ((table_of t).keys k)
table_keys q first least t k le = lower_value q first (first_of_table q least t) ((table_of t).keys k) le (values_from q (first_of_entries q least (placed_entries t.entries)) t.keys.entries k)

abbrev some_of : Option TableView → List TableView
some_of None = []
some_of (Some v) = v ∷ []

of_some : (P : TableView → Type 0) (o : Option TableView) → Each P (some_of o) → P (or_empty None) → P (or_empty o)
of_some P None each empty = empty
of_some P (Some v) each empty = each.0

-- what is true of each group's table
in_tables : (q : LogQueue) (P : TableView → Type 0) (least : ℕ) (es : List (ℕ × MemTable)) (g : ℕ) → ((l : ℕ) (t : MemTable) → fold (λ l t. first_of_table q l t) least (values_of es) ≤ first_of_table q l t → P (table_of t))
    → Each P (some_of (option_map table_of (lookup (nat_eq g) es)))
in_tables q P least [] g holds = tt
in_tables q P least (e ∷ es) g holds = at (nat_eq g e.0) (in_tables q P (first_of_table q least e.1) es g holds)
  where
    at : (b : Bool) → Each P (some_of (option_map table_of (lookup (nat_eq g) es))) → Each P (some_of (option_map table_of (cond b (Some e.1) (lookup (nat_eq g) es))))
    at true later = (holds least e.1 (tables_low q (first_of_table q least e.1) (values_of es)), tt)
    at false later = later

-- Both queues.

as_entry : (first : ℕ) (b : Option FileBlockHandle) → IsFrom Append first b → IsEntryPlacedFrom first b
as_entry first None is = tt
as_entry first (Some block) is = is

as_value : (first : ℕ) (s : Option StoredValue) → IsValueFrom Append first s → IsPlacedFrom first s
as_value first None is = tt
as_value first (Some stored) is = is

as_rewritten : (first : ℕ) (b : Option FileBlockHandle) → IsFrom Rewrite first b → IsRewrittenFrom first b
as_rewritten first None is = tt
as_rewritten first (Some block) is = is

as_rewritten_value : (first : ℕ) (s : Option StoredValue) → IsValueFrom Rewrite first s → IsValueRewrittenFrom first s
as_rewritten_value first None is = tt
as_rewritten_value first (Some stored) is = is

entries_in : (q : LogQueue) (at_most : ℕ) (m : MemTables) (g : ℕ) → Each (λ (e : ℕ × EntryPlace). IsFrom q (first_of_tables q at_most m) e.1.block) (or_empty (tables_of m g)).entries
entries_in q at_most m g =
    let first = first_of_tables q at_most m in
    of_some (λ (v : TableView). Each (λ (e : ℕ × EntryPlace). IsFrom q first e.1.block) v.entries) (tables_of m g)
    (in_tables q (λ (v : TableView). Each (λ (e : ℕ × EntryPlace). IsFrom q first e.1.block) v.entries) at_most m.tables.entries g (λ l t le. table_entries q first l t le)) tt

keys_in : (q : LogQueue) (at_most : ℕ) (m : MemTables) (g : ℕ) (k : List ℕ) → IsValueFrom q (first_of_tables q at_most m) ((or_empty (tables_of m g)).keys k)
keys_in q at_most m g k =
    let first = first_of_tables q at_most m in
    of_some (λ (v : TableView). IsValueFrom q first (v.keys k)) (tables_of m g) (in_tables q (λ (v : TableView). IsValueFrom q first (v.keys k)) at_most m.tables.entries g (λ l t le. table_keys q first l t k le)) tt

pub nothing_before : (at_most : ℕ) (m : MemTables) → AreEntriesPlacedFrom (first_of_tables Append at_most m) (tables_of m) × AreKeysPlacedFrom (first_of_tables Append at_most m) (tables_of m) × (first_of_tables Append at_most m ≤ at_most)
nothing_before at_most m =
    let first = first_of_tables Append at_most m in (
      λ g. each_map (λ (e : ℕ × EntryPlace). IsFrom Append first e.1.block) (λ (e : ℕ × EntryPlace). IsEntryPlacedFrom first e.1.block) (or_empty (tables_of m g)).entries (λ e is. as_entry first e.1.block is) (entries_in Append at_most m g),
      λ g k. as_value first ((or_empty (tables_of m g)).keys k) (keys_in Append at_most m g k),
      tables_low Append at_most (values_of m.tables.entries),
    )

pub nothing_rewritten_before : (at_most : ℕ) (m : MemTables) → AreRewrittenFrom (first_of_tables Rewrite at_most m) (tables_of m) × (first_of_tables Rewrite at_most m ≤ at_most)
nothing_rewritten_before at_most m =
    let first = first_of_tables Rewrite at_most m in (
      record {
        entries = λ g. each_map (λ (e : ℕ × EntryPlace). IsFrom Rewrite first e.1.block) (λ (e : ℕ × EntryPlace). IsRewrittenFrom first e.1.block) (or_empty (tables_of m g)).entries (λ e is. as_rewritten first e.1.block is) (entries_in Rewrite at_most m g);
        keys = λ g k. as_rewritten_value first ((or_empty (tables_of m g)).keys k) (keys_in Rewrite at_most m g k);
      },
      tables_low Rewrite at_most (values_of m.tables.entries),
    )
