-- The tables of the Rewrite queue's batches place all in that queue.
use Rattle.std.proofs.Common.{◌≡◌, ℕ, ◌==◌, ◌&&◌, Bool, true, false, cond, List, [], ◌∷◌, filter, Option, Some, None, refl, sym, ◌∙◌, ap, subst}
use Rattle.std.specs.List.{AllByRecursion as Each, list_all}
use Rattle.std.specs.Str.{bytes_eq}
use Rattle.std.proofs.lemmas.Bool.{and_parts}
use Rattle.raft_base.specs.declared.pipe_log.FileId.{FileId}
use Rattle.raft_records.specs.declared.entry_index.EntryPlace.{EntryPlace}
use Rattle.raft_records.specs.Item.{Entries, Clean, Compact, Put, Delete, group_mark_key}
use Rattle.raft_records.specs.PlacedItem.{PlacedContent, EntriesAt, Plain, PlacedItem}
use Rattle.raft_tables.specs.Counters.{is_rewrite, is_rewritten}
use Rattle.raft_tables.specs.Rewritten.{AreWhole, PlacedBatch, are_batches_placed, no_tables, placed_whole, tables_after_batches}
use Rattle.raft_tables.specs.Table.{StoredValue}
use Rattle.raft_tables.specs.Tables.{Tables, or_empty, table_after, tables_after, tables_after_item, tables_of}
use Rattle.raft_tables.specs.declared.memtables.MemTables.{MemTables}
use Rattle.raft_index_laws.specs.Opening.{AreRewritten, IsRewrittenValue}
use Rattle.raft_index_laws.proofs.KeyLemmas.{stored-after, stored_after}

stored_rewritten : (id : FileId) (k : List ℕ) (c : PlacedContent) (s : Option StoredValue) → is_rewrite id.queue ≡ true → IsRewrittenValue s → IsRewrittenValue (stored_after id k c s)
stored_rewritten id k (EntriesAt entries) s is there = there
stored_rewritten id k (Plain (Entries entries)) s is there = there
stored_rewritten id k (Plain Clean) s is there = tt
stored_rewritten id k (Plain (Compact index)) s is there = there
stored_rewritten id k (Plain (Put key value)) s is there = at (bytes_eq key group_mark_key) (bytes_eq k key)
  where
    at : (mark same : Bool) → IsRewrittenValue (cond mark s (cond same (Some (value, id)) s))
    at true same = there
    at false true = is
    at false false = there
stored_rewritten id k (Plain (Delete key)) s is there = at (bytes_eq k key)
  where
    at : (same : Bool) → IsRewrittenValue (cond same None s)
    at true = tt
    at false = there

item_rewritten : (id : FileId) (t : Tables) (item : PlacedItem) → is_rewrite id.queue ≡ true → ((g : ℕ) (k : List ℕ) → IsRewrittenValue ((or_empty (t g)).keys k)) → (g : ℕ) (k : List ℕ) → IsRewrittenValue ((or_empty (tables_after_item id t item g)).keys k)
item_rewritten id t item is all g k = at (g == item.group)
  where
    at : (b : Bool) → IsRewrittenValue ((or_empty (cond b (table_after id item.content (t item.group)) (t g))).keys k)
    at true = subst IsRewrittenValue (sym (stored-after id item.content (t item.group) k)) (stored_rewritten id k item.content ((or_empty (t item.group)).keys k) is (all item.group k))
    at false = all g k

items_rewritten : (id : FileId) (t : Tables) (items : List PlacedItem) → is_rewrite id.queue ≡ true → ((g : ℕ) (k : List ℕ) → IsRewrittenValue ((or_empty (t g)).keys k)) → (g : ℕ) (k : List ℕ) → IsRewrittenValue ((or_empty (tables_after id t items g)).keys k)
items_rewritten id t [] is all = all
items_rewritten id t (item ∷ items) is all = items_rewritten id (tables_after_item id t item) items is (item_rewritten id t item is all)

batches_rewritten : (t : Tables) (batches : List PlacedBatch) → list_all (λ b. is_rewrite b.0.queue) batches ≡ true → ((g : ℕ) (k : List ℕ) → IsRewrittenValue ((or_empty (t g)).keys k)) → (g : ℕ) (k : List ℕ) → IsRewrittenValue ((or_empty (tables_after_batches t batches g)).keys k)
batches_rewritten t [] is all = all
batches_rewritten t (b ∷ batches) is all =
    let parts = and_parts (is_rewrite b.0.queue) (list_all (λ c. is_rewrite c.0.queue) batches) is in
    batches_rewritten (tables_after b.0 t b.1) batches parts.1 (items_rewritten b.0 t b.1 parts.0 all)

each_of_all : (es : List (ℕ × EntryPlace)) → list_all (λ e. is_rewritten e.1) es ≡ true → Each (λ e. is_rewritten e.1 ≡ true) es
each_of_all [] is = tt
each_of_all (e ∷ es) is = let parts = and_parts (is_rewritten e.1) (list_all (λ x. is_rewritten x.1) es) is in (parts.0, each_of_all es parts.1)

filter_all : {X : Type 0} (p q : X → Bool) (xs : List X) → list_all p xs ≡ true → list_all p (filter q xs) ≡ true
filter_all p q [] is = refl
filter_all p q (x ∷ xs) is =
    let parts = and_parts (p x) (list_all p xs) is in
    at (q x) parts.0 (filter_all p q xs parts.1)
  where
    at : (b : Bool) → p x ≡ true → list_all p (filter q xs) ≡ true → list_all p (cond b (x ∷ filter q xs) (filter q xs)) ≡ true
    at true here rest = ap (λ c. c && list_all p (filter q xs)) here ∙ rest
    at false here rest = rest

pub whole_rewritten : (batches : List PlacedBatch) (m : MemTables) → AreWhole batches m → list_all (λ b. is_rewrite b.0.queue) batches ≡ true → are_batches_placed is_rewritten batches ≡ true → AreRewritten (tables_of m)
whole_rewritten batches m whole files places = record {
  entries = λ g. each_of_all (or_empty (tables_of m g)).entries (whole.places is_rewritten places g);
  keys = λ g k. subst (λ (t : Tables). IsRewrittenValue ((or_empty (t g)).keys k)) (sym whole.tables) (batches_rewritten no_tables (placed_whole batches) (filter_all (λ b. is_rewrite b.0.queue) _ batches files) (λ h j. tt) g k);
}
