-- No file of the Rewrite queue in which something stands has a number from a bound on.
use Rattle.std.proofs.Common.{◌≡◌, ℕ, ◌<◌, ◌≤◌, ◌==◌, ◌&&◌, Bool, true, false, cond, List, [], ◌∷◌, ◌++◌, map, Option, Some, None, sym, ◌∙◌, subst, arith}
use Rattle.std.specs.List.{AllByRecursion as Each}
use Rattle.std.specs.Option.{option_map, option_or}
use Rattle.std.specs.Prelude.{nat_le, nat_lt}
use Rattle.std.specs.Str.{bytes_eq}
use Rattle.raft_base.specs.declared.pipe_log.FileBlockHandle.{FileBlockHandle}
use Rattle.raft_base.specs.declared.pipe_log.FileId.{FileId}
use Rattle.raft_base.specs.declared.pipe_log.LogQueue.{LogQueue}
use Rattle.raft_base.specs.declared.pipe_log.LogQueue.TheVariants.{Append, Rewrite}
use Rattle.raft_records.specs.Contents.{entries_below, is_next_to, with_entries}
use Rattle.raft_records.specs.declared.entry_index.EntryPlace.{EntryPlace}
use Rattle.raft_records.specs.FileBatches.{AreInFile, IsInFile}
use Rattle.raft_records.specs.Item.{Entries, Clean, Compact, Put, Delete, group_mark_key}
use Rattle.raft_records.specs.PlacedItem.{EntriesAt, Plain, PlacedContent, PlacedItem}
use Rattle.raft_records.specs.Validity.{are_in_order}
use Rattle.raft_recovery_laws.proofs.EachLemmas.{each_append, each_filter, each_map}
use Rattle.raft_tables.specs.Leaving.{table_left, tables_left, tables_left_by}
use Rattle.raft_tables.specs.MovedEntries.{entries_moved, entry_moved, may_move, may_move_from}
use Rattle.raft_tables.specs.Moving.{table_moved, tables_moved, tables_moved_by, value_moved}
use Rattle.raft_tables.specs.Recovering.{IsJoined}
use Rattle.raft_tables.specs.Rewritten.{AreWhole, PlacedBatch, no_tables, placed_whole, tables_after_batches}
use Rattle.raft_tables.specs.Table.{StoredValue, TableView, with_entries_at, with_key}
use Rattle.raft_tables.specs.Tables.{Tables, or_empty, table_after, tables_after, tables_after_item, tables_of}
use Rattle.raft_tables.specs.declared.memtables.MemTables.{MemTables}
use Rattle.raft_index_laws.proofs.KeyLemmas.{stored-after, stored-moved, stored_after}
use Rattle.raft_index_laws.specs.DroppingOld.{AreRewrittenBefore, IsRewrittenBefore, IsValueRewrittenBefore}
use Rattle.raft_index_laws.proofs.RewrittenLemmas.{entries-moved, keys-moved}

abbrev pub IsBefore : ℕ → FileId → Type 0
IsBefore first id = id.queue ≡ Rewrite → id.seq < first

abbrev EachBefore : ℕ → List (ℕ × EntryPlace) → Type 0
EachBefore first es = Each (λ e. IsRewrittenBefore first e.1.block) es

abbrev pub ContentBefore : ℕ → PlacedContent → Type 0
ContentBefore first (EntriesAt es) = EachBefore first es
ContentBefore first (Plain content) = Unit {0}

-- entries that stand in one file do, if it does
in_file_before : (first : ℕ) (queue : LogQueue) (seq : ℕ) (e : ℕ × EntryPlace) → (queue ≡ Rewrite → seq < first) → IsInFile queue seq e → IsRewrittenBefore first e.1.block
in_file_before first queue seq e before is = subst (IsRewrittenBefore first) (sym is.1) (λ rewrite. let low = before (sym is.3 ∙ rewrite) in let at = is.2 in omega (arith, low, at))

entries_in_file : (first : ℕ) (queue : LogQueue) (seq : ℕ) (c : PlacedContent) → (queue ≡ Rewrite → seq < first) → AreInFile queue seq c → ContentBefore first c
entries_in_file first queue seq (EntriesAt es) before are = each_map (IsInFile queue seq) (λ e. IsRewrittenBefore first e.1.block) es (λ e is. in_file_before first queue seq e before is) are
entries_in_file first queue seq (Plain content) before are = tt

pub items_in_file : (first : ℕ) (queue : LogQueue) (seq : ℕ) (items : List PlacedItem) → (queue ≡ Rewrite → seq < first) → Each (λ item. AreInFile queue seq item.content) items → Each (λ item. ContentBefore first item.content) items
items_in_file first queue seq items before are = each_map (λ item. AreInFile queue seq item.content) (λ item. ContentBefore first item.content) items (λ item is. entries_in_file first queue seq item.content before is) are

with_both : (first : ℕ) (old new : List (ℕ × EntryPlace)) → EachBefore first old → EachBefore first new → EachBefore first (with_entries old new)
with_both first old [] is_old is_new = is_old
with_both first old (e ∷ es) is_old is_new = at (is_next_to old e.0)
  where
    P : ℕ × EntryPlace → Type 0
    P = λ x. IsRewrittenBefore first x.1.block

    at : (b : Bool) → Each P (cond b (entries_below e.0 old ++ (e ∷ es)) (e ∷ es))
    at true = each_append P (entries_below e.0 old) (e ∷ es) (each_filter P (λ x. nat_lt x.0 e.0) old is_old) is_new
    at false = is_new

-- Items that are applied.

entries_applied : (first : ℕ) (id : FileId) (c : PlacedContent) (t : Option TableView) → ContentBefore first c → EachBefore first (or_empty t).entries → EachBefore first (or_empty (table_after id c t)).entries
entries_applied first id (EntriesAt []) t is old = old
entries_applied first id (EntriesAt (e ∷ es)) t is old = at (are_in_order (e ∷ es))
  where
    at : (b : Bool) → EachBefore first (or_empty (cond b (Some (with_entries_at (with_entries (or_empty t).entries (e ∷ es)) (or_empty t))) t)).entries
    at true = with_both first (or_empty t).entries (e ∷ es) old is
    at false = old
entries_applied first id (Plain (Entries entries)) t is old = old
entries_applied first id (Plain Clean) t is old = tt
entries_applied first id (Plain (Compact index)) None is old = tt
entries_applied first id (Plain (Compact index)) (Some v) is old = each_filter (λ x. IsRewrittenBefore first x.1.block) (λ e. nat_le index e.0) v.entries old
entries_applied first id (Plain (Put key value)) t is old = at (bytes_eq key group_mark_key)
  where
    at : (b : Bool) → EachBefore first (or_empty (cond b t (Some (with_key key (Some (value, id)) (or_empty t))))).entries
    at true = old
    at false = old
entries_applied first id (Plain (Delete key)) None is old = tt
entries_applied first id (Plain (Delete key)) (Some v) is old = old

value_applied : (first : ℕ) (id : FileId) (k : List ℕ) (c : PlacedContent) (s : Option StoredValue) → IsBefore first id → IsValueRewrittenBefore first s → IsValueRewrittenBefore first (stored_after id k c s)
value_applied first id k (EntriesAt entries) s is old = old
value_applied first id k (Plain (Entries entries)) s is old = old
value_applied first id k (Plain Clean) s is old = tt
value_applied first id k (Plain (Compact index)) s is old = old
value_applied first id k (Plain (Put key value)) s is old = at (bytes_eq key group_mark_key) (bytes_eq k key)
  where
    at : (mark same : Bool) → IsValueRewrittenBefore first (cond mark s (cond same (Some (value, id)) s))
    at true same = old
    at false true = is
    at false false = old
value_applied first id k (Plain (Delete key)) s is old = at (bytes_eq k key)
  where
    at : (same : Bool) → IsValueRewrittenBefore first (cond same None s)
    at true = tt
    at false = old

item_applied : (first : ℕ) (id : FileId) (t : Tables) (item : PlacedItem) → IsBefore first id → ContentBefore first item.content → AreRewrittenBefore first t → AreRewrittenBefore first (tables_after_item id t item)
item_applied first id t item is placed all = record { entries = λ g. at_entries g (g == item.group); keys = λ g k. at_key g k (g == item.group) }
  where
    at_entries : (g : ℕ) (b : Bool) → EachBefore first (or_empty (cond b (table_after id item.content (t item.group)) (t g))).entries
    at_entries g true = entries_applied first id item.content (t item.group) placed (all.entries item.group)
    at_entries g false = all.entries g

    at_key : (g : ℕ) (k : List ℕ) (b : Bool) → IsValueRewrittenBefore first ((or_empty (cond b (table_after id item.content (t item.group)) (t g))).keys k)
    at_key g k true = subst (IsValueRewrittenBefore first) (sym (stored-after id item.content (t item.group) k)) (value_applied first id k item.content ((or_empty (t item.group)).keys k) is (all.keys item.group k))
    at_key g k false = all.keys g k

pub items_applied : (first : ℕ) (id : FileId) (t : Tables) (items : List PlacedItem) → IsBefore first id → Each (λ item. ContentBefore first item.content) items → AreRewrittenBefore first t → AreRewrittenBefore first (tables_after id t items)
items_applied first id t [] is placed all = all
items_applied first id t (item ∷ items) is placed all = items_applied first id (tables_after_item id t item) items is placed.1 (item_applied first id t item is placed.0 all)

pub applied : (first seq : ℕ) (t : Tables) (items : List PlacedItem) → Each (λ item. AreInFile Append seq item.content) items → AreRewrittenBefore first t → AreRewrittenBefore first (tables_after (record { queue = Append; seq = seq }) t items)
applied first seq t items placed all = items_applied first (record { queue = Append; seq = seq }) t items append (items_in_file first Append seq items append placed) all
  where
    append : Append ≡ Rewrite → seq < first
    append is = absurd (let clash = is in cc)

-- Batches of the Rewrite queue.

pub whole_before : (first : ℕ) (batches : List PlacedBatch) (m : MemTables) → AreWhole batches m → Each (λ b. (b.0.seq < first) × Each (λ item. AreInFile Rewrite b.0.seq item.content) b.1) batches → AreRewrittenBefore first (tables_of m)
whole_before first batches m whole files =
    subst (AreRewrittenBefore first) (sym whole.tables) (all no_tables (placed_whole batches) (each_filter P _ batches files) (record { entries = λ g. tt; keys = λ g k. tt }))
  where
    P : PlacedBatch → Type 0
    P = λ b. (b.0.seq < first) × Each (λ item. AreInFile Rewrite b.0.seq item.content) b.1

    all : (t : Tables) (bs : List PlacedBatch) → Each P bs → AreRewrittenBefore first t → AreRewrittenBefore first (tables_after_batches t bs)
    all t [] are old = old
    all t (b ∷ bs) are old = all (tables_after b.0 t b.1) bs are.1 (items_applied first b.0 t b.1 (λ _. are.0.0) (items_in_file first Rewrite b.0.seq b.1 (λ _. are.0.0) are.0.1) old)

-- What items leave.

entries_stay : (first : ℕ) (c : PlacedContent) (t : Option TableView) → EachBefore first (or_empty t).entries → EachBefore first (or_empty (table_left c t)).entries
entries_stay first (EntriesAt []) t old = old
entries_stay first (EntriesAt (e ∷ es)) None old = at (are_in_order (e ∷ es))
  where
    at : (b : Bool) → EachBefore first (or_empty (let none : Option TableView = None in cond b none none)).entries
    at true = tt
    at false = tt
entries_stay first (EntriesAt (e ∷ es)) (Some v) old = at (are_in_order (e ∷ es))
  where
    at : (b : Bool) → EachBefore first (or_empty (cond b (Some (with_entries_at (entries_below e.0 v.entries) v)) (Some v))).entries
    at true = each_filter (λ x. IsRewrittenBefore first x.1.block) (λ x. nat_lt x.0 e.0) v.entries old
    at false = old
entries_stay first (Plain (Entries entries)) t old = old
entries_stay first (Plain Clean) t old = tt
entries_stay first (Plain (Compact index)) None old = tt
entries_stay first (Plain (Compact index)) (Some v) old = each_filter (λ x. IsRewrittenBefore first x.1.block) (λ e. nat_le index e.0) v.entries old
entries_stay first (Plain (Put key value)) None old = at (bytes_eq key group_mark_key)
  where
    at : (b : Bool) → EachBefore first (or_empty (let none : Option TableView = None in cond b none none)).entries
    at true = tt
    at false = tt
entries_stay first (Plain (Put key value)) (Some v) old = at (bytes_eq key group_mark_key)
  where
    at : (b : Bool) → EachBefore first (or_empty (cond b (Some v) (Some (with_key key None v)))).entries
    at true = old
    at false = old
entries_stay first (Plain (Delete key)) None old = tt
entries_stay first (Plain (Delete key)) (Some v) old = old

value_stays : (first : ℕ) (c : PlacedContent) (t : Option TableView) (k : List ℕ) → IsValueRewrittenBefore first ((or_empty t).keys k) → IsValueRewrittenBefore first ((or_empty (table_left c t)).keys k)
value_stays first (EntriesAt []) t k old = old
value_stays first (EntriesAt (e ∷ es)) None k old = at (are_in_order (e ∷ es))
  where
    at : (b : Bool) → IsValueRewrittenBefore first ((or_empty (let none : Option TableView = None in cond b none none)).keys k)
    at true = tt
    at false = tt
value_stays first (EntriesAt (e ∷ es)) (Some v) k old = at (are_in_order (e ∷ es))
  where
    at : (b : Bool) → IsValueRewrittenBefore first ((or_empty (cond b (Some (with_entries_at (entries_below e.0 v.entries) v)) (Some v))).keys k)
    at true = old
    at false = old
value_stays first (Plain (Entries entries)) t k old = old
value_stays first (Plain Clean) t k old = tt
value_stays first (Plain (Compact index)) None k old = tt
value_stays first (Plain (Compact index)) (Some v) k old = old
value_stays first (Plain (Put key value)) None k old = at (bytes_eq key group_mark_key)
  where
    at : (b : Bool) → IsValueRewrittenBefore first ((or_empty (let none : Option TableView = None in cond b none none)).keys k)
    at true = tt
    at false = tt
value_stays first (Plain (Put key value)) (Some v) k old = at (bytes_eq key group_mark_key)
  where
    by : (same : Bool) → IsValueRewrittenBefore first (cond same None (v.keys k))
    by true = tt
    by false = old

    at : (mark : Bool) → IsValueRewrittenBefore first ((or_empty (cond mark (Some v) (Some (with_key key None v)))).keys k)
    at true = old
    at false = by (bytes_eq k key)
value_stays first (Plain (Delete key)) None k old = tt
value_stays first (Plain (Delete key)) (Some v) k old = at (bytes_eq k key)
  where
    at : (same : Bool) → IsValueRewrittenBefore first (cond same None (v.keys k))
    at true = tt
    at false = old

item_left : (first : ℕ) (t : Tables) (item : PlacedItem) → AreRewrittenBefore first t → AreRewrittenBefore first (tables_left_by t item)
item_left first t item all = record { entries = λ g. at_entries g (g == item.group); keys = λ g k. at_key g k (g == item.group) }
  where
    at_entries : (g : ℕ) (b : Bool) → EachBefore first (or_empty (cond b (table_left item.content (t item.group)) (t g))).entries
    at_entries g true = entries_stay first item.content (t item.group) (all.entries item.group)
    at_entries g false = all.entries g

    at_key : (g : ℕ) (k : List ℕ) (b : Bool) → IsValueRewrittenBefore first ((or_empty (cond b (table_left item.content (t item.group)) (t g))).keys k)
    at_key g k true = value_stays first item.content (t item.group) k (all.keys item.group k)
    at_key g k false = all.keys g k

pub items_left : (first : ℕ) (t : Tables) (items : List PlacedItem) → AreRewrittenBefore first t → AreRewrittenBefore first (tables_left t items)
items_left first t [] all = all
items_left first t (item ∷ items) all = items_left first (tables_left_by t item) items (item_left first t item all)

either_value : (first : ℕ) (new old : Option StoredValue) → IsValueRewrittenBefore first new → IsValueRewrittenBefore first old → IsValueRewrittenBefore first (option_or new old)
either_value first None old is_new is_old = is_old
either_value first (Some stored) old is_new is_old = is_new

pub joined_before : (first : ℕ) (left newer joined : Tables) → IsJoined left newer joined → AreRewrittenBefore first left → AreRewrittenBefore first newer → AreRewrittenBefore first joined
joined_before first left newer joined is old new = record {
  entries = λ g. subst (EachBefore first) (sym (is.entries g)) (with_both first (or_empty (left g)).entries (or_empty (newer g)).entries (old.entries g) (new.entries g));
  keys = λ g k. subst (IsValueRewrittenBefore first) (sym (is.keys g k)) (either_value first ((or_empty (newer g)).keys k) ((or_empty (left g)).keys k) (new.keys g k) (old.keys g k));
}

-- New places.

one_placed : (first : ℕ) (w : Option ℕ) (n : ℕ × EntryPlace) (es : List (ℕ × EntryPlace)) → IsRewrittenBefore first n.1.block → EachBefore first es → EachBefore first (map (entry_moved w n) es)
one_placed first w n [] is old = tt
one_placed first w n (e ∷ es) is old = (at ((e.0 == n.0) && may_move_from w e.1), one_placed first w n es is old.1)
  where
    at : (b : Bool) → IsRewrittenBefore first (let x : ℕ × EntryPlace = cond b (e.0, n.1) e in x.1.block)
    at true = is
    at false = old.0

all_placed : (first : ℕ) (w : Option ℕ) (new es : List (ℕ × EntryPlace)) → EachBefore first new → EachBefore first es → EachBefore first (entries_moved w new es)
all_placed first w [] es is old = old
all_placed first w (n ∷ new) es is old = all_placed first w new (map (entry_moved w n) es) is.1 (one_placed first w n es is.0 old)

entries_placed : (first : ℕ) (w : Option ℕ) (id : FileId) (c : PlacedContent) (t : Option TableView) → ContentBefore first c → EachBefore first (or_empty t).entries → EachBefore first (or_empty (table_moved w id c t)).entries
entries_placed first w id (EntriesAt new) t is old = subst (EachBefore first) (sym (entries-moved w id new t)) (all_placed first w new (or_empty t).entries is old)
entries_placed first w id (Plain (Entries entries)) t is old = old
entries_placed first w id (Plain Clean) t is old = old
entries_placed first w id (Plain (Compact index)) t is old = old
entries_placed first w id (Plain (Put key value)) t is old = at (bytes_eq key group_mark_key) t old
  where
    at : (b : Bool) (u : Option TableView) → EachBefore first (or_empty u).entries → EachBefore first (or_empty (cond b u (option_map (λ v. with_key key (option_map (value_moved w id) (v.keys key)) v) u))).entries
    at true u same = same
    at false None same = tt
    at false (Some v) same = same
entries_placed first w id (Plain (Delete key)) t is old = old

moved_value : (first : ℕ) (w : Option ℕ) (id : FileId) (s : Option StoredValue) → IsBefore first id → IsValueRewrittenBefore first s → IsValueRewrittenBefore first (option_map (value_moved w id) s)
moved_value first w id None is old = tt
moved_value first w id (Some stored) is old = at (may_move w stored.1)
  where
    at : (b : Bool) → IsValueRewrittenBefore first (Some (cond b (stored.0, id) stored))
    at true = is
    at false = old

value_placed : (first : ℕ) (w : Option ℕ) (id : FileId) (c : PlacedContent) (t : Option TableView) (k : List ℕ) → IsBefore first id → ((j : List ℕ) → IsValueRewrittenBefore first ((or_empty t).keys j)) → IsValueRewrittenBefore first ((or_empty (table_moved w id c t)).keys k)
value_placed first w id (EntriesAt new) t k is old = subst (IsValueRewrittenBefore first) (sym (keys-moved w id new t k)) (old k)
value_placed first w id (Plain (Entries entries)) t k is old = old k
value_placed first w id (Plain Clean) t k is old = old k
value_placed first w id (Plain (Compact index)) t k is old = old k
value_placed first w id (Plain (Put key value)) t k is old = subst (IsValueRewrittenBefore first) (sym (stored-moved w id key value t k)) (at (bytes_eq key group_mark_key) (bytes_eq k key))
  where
    at : (mark same : Bool) → IsValueRewrittenBefore first (cond mark ((or_empty t).keys k) (cond same (option_map (value_moved w id) ((or_empty t).keys key)) ((or_empty t).keys k)))
    at true same = old k
    at false true = moved_value first w id ((or_empty t).keys key) is (old key)
    at false false = old k
value_placed first w id (Plain (Delete key)) t k is old = old k

item_moved : (first : ℕ) (w : Option ℕ) (id : FileId) (t : Tables) (item : PlacedItem) → IsBefore first id → ContentBefore first item.content → AreRewrittenBefore first t → AreRewrittenBefore first (tables_moved_by w id t item)
item_moved first w id t item is placed all = record { entries = λ g. at_entries g (g == item.group); keys = λ g k. at_key g k (g == item.group) }
  where
    at_entries : (g : ℕ) (b : Bool) → EachBefore first (or_empty (cond b (table_moved w id item.content (t item.group)) (t g))).entries
    at_entries g true = entries_placed first w id item.content (t item.group) placed (all.entries item.group)
    at_entries g false = all.entries g

    at_key : (g : ℕ) (k : List ℕ) (b : Bool) → IsValueRewrittenBefore first ((or_empty (cond b (table_moved w id item.content (t item.group)) (t g))).keys k)
    at_key g k true = value_placed first w id item.content (t item.group) k is (all.keys item.group)
    at_key g k false = all.keys g k

pub items_moved : (first : ℕ) (w : Option ℕ) (id : FileId) (t : Tables) (items : List PlacedItem) → IsBefore first id → Each (λ item. ContentBefore first item.content) items → AreRewrittenBefore first t → AreRewrittenBefore first (tables_moved w id t items)
items_moved first w id t [] is placed all = all
items_moved first w id t (item ∷ items) is placed all = items_moved first w id (tables_moved_by w id t item) items is placed.1 (item_moved first w id t item is placed.0 all)

pub moved : (first seq : ℕ) (w : Option ℕ) (t : Tables) (items : List PlacedItem) → seq < first → Each (λ item. AreInFile Rewrite seq item.content) items → AreRewrittenBefore first t → AreRewrittenBefore first (tables_moved w (record { queue = Rewrite; seq = seq }) t items)
moved first seq w t items low placed all = items_moved first w (record { queue = Rewrite; seq = seq }) t items (λ _. low) (items_in_file first Rewrite seq items (λ _. low) placed) all

-- A greater bound.

entry_later : (first last : ℕ) (b : Option FileBlockHandle) → first ≤ last → IsRewrittenBefore first b → IsRewrittenBefore last b
entry_later first last None more is = tt
entry_later first last (Some block) more is = λ queue. let low = is queue in omega (arith, low, more)

value_later : (first last : ℕ) (s : Option StoredValue) → first ≤ last → IsValueRewrittenBefore first s → IsValueRewrittenBefore last s
value_later first last None more is = tt
value_later first last (Some stored) more is = λ queue. let low = is queue in omega (arith, low, more)

pub later : (first last : ℕ) (t : Tables) → first ≤ last → AreRewrittenBefore first t → AreRewrittenBefore last t
later first last t more all = record {
  entries = λ g. each_map (λ e. IsRewrittenBefore first e.1.block) (λ e. IsRewrittenBefore last e.1.block) (or_empty (t g)).entries (λ e is. entry_later first last e.1.block more is) (all.entries g);
  keys = λ g k. value_later first last ((or_empty (t g)).keys k) more (all.keys g k);
}
