-- Where the entries of tables stand after items.
use Rattle.std.proofs.Common.{◌≡◌, ℕ, ◌==◌, Bool, true, false, cond, List, [], ◌∷◌, ◌++◌, Option, Some, None, refl, ◌∙◌}
use Rattle.std.specs.Prelude.{nat_le, nat_lt}
use Rattle.std.specs.List.{filter, list_all}
use Rattle.std.specs.Str.{bytes_eq}
use Rattle.std.proofs.lemmas.Bool.{and_parts}
use Rattle.std.proofs.lemmas.List.Folds.{list_all-append}
use Rattle.raft_base.specs.declared.pipe_log.FileId.{FileId}
use Rattle.raft_records.specs.declared.entry_index.EntryPlace.{EntryPlace}
use Rattle.raft_records.specs.Contents.{entries_below, is_next_to, with_entries}
use Rattle.raft_records.specs.Item.{Entries, Clean, Compact, Put, Delete, group_mark_key}
use Rattle.raft_records.specs.PlacedItem.{PlacedContent, EntriesAt, Plain, PlacedItem, are_all_placed}
use Rattle.raft_records.specs.Validity.{are_in_order}
use Rattle.raft_tables.specs.Table.{TableView, with_entries_at, with_key}
use Rattle.raft_tables.specs.Tables.{AreAllPlaced, Tables, or_empty, table_after, tables_after, tables_after_item}

-- each entry stands at such a place
abbrev pub stand_at : (EntryPlace → Bool) → List (ℕ × EntryPlace) → Bool
stand_at holds es = list_all (λ e. holds e.1) es

-- of those that are left when some go
pub stand_at-filter : (holds : EntryPlace → Bool) (kept : ℕ → Bool) (es : List (ℕ × EntryPlace)) → stand_at holds es ≡ true → stand_at holds (filter (λ e. kept e.0) es) ≡ true
stand_at-filter holds kept [] all = refl
stand_at-filter holds kept (e ∷ es) all =
    let parts = and_parts (holds e.1) (stand_at holds es) all in
    at (kept e.0) parts.0 (stand_at-filter holds kept es parts.1)
  where
    at : (b : Bool) → holds e.1 ≡ true → stand_at holds (filter (λ x. kept x.0) es) ≡ true → stand_at holds (cond b (e ∷ filter (λ x. kept x.0) es) (filter (λ x. kept x.0) es)) ≡ true
    at true first rest = rw (first, rest) refl
    at false first rest = rest

stand_at-append : (holds : EntryPlace → Bool) (es fs : List (ℕ × EntryPlace)) → stand_at holds es ≡ true → stand_at holds fs ≡ true → stand_at holds (es ++ fs) ≡ true
stand_at-append holds es fs first second = list_all-append (λ (e : ℕ × EntryPlace). holds e.1) es fs ∙ rw (first, second) refl

pub stand_at-with_entries : (holds : EntryPlace → Bool) (old new : List (ℕ × EntryPlace)) → stand_at holds old ≡ true → stand_at holds new ≡ true → stand_at holds (with_entries old new) ≡ true
stand_at-with_entries holds old [] before after = before
stand_at-with_entries holds old (e ∷ es) before after = at (is_next_to old e.0)
  where
    at : (b : Bool) → stand_at holds (cond b (entries_below e.0 old ++ (e ∷ es)) (e ∷ es)) ≡ true
    at true = stand_at-append holds (entries_below e.0 old) (e ∷ es) (stand_at-filter holds (λ index. nat_lt index e.0) old before) after
    at false = after

-- one group's table
stand_at-table_after : (holds : EntryPlace → Bool) (id : FileId) (c : PlacedContent) (t : Option TableView) → are_all_placed holds c ≡ true → stand_at holds (or_empty t).entries ≡ true
    → stand_at holds (or_empty (table_after id c t)).entries ≡ true
stand_at-table_after holds id (EntriesAt []) t all before = before
stand_at-table_after holds id (EntriesAt (e ∷ es)) t all before = at (are_in_order (e ∷ es))
  where
    at : (b : Bool) → stand_at holds (or_empty (cond b (Some (with_entries_at (with_entries (or_empty t).entries (e ∷ es)) (or_empty t))) t)).entries ≡ true
    at true = stand_at-with_entries holds (or_empty t).entries (e ∷ es) before all
    at false = before
stand_at-table_after holds id (Plain (Entries entries)) t all before = before
stand_at-table_after holds id (Plain Clean) t all before = refl
stand_at-table_after holds id (Plain (Compact index)) None all before = refl
stand_at-table_after holds id (Plain (Compact index)) (Some v) all before = stand_at-filter holds (nat_le index) v.entries before
stand_at-table_after holds id (Plain (Put key value)) t all before = at (bytes_eq key group_mark_key)
  where
    at : (b : Bool) → stand_at holds (or_empty (cond b t (Some (with_key key (Some (value, id)) (or_empty t))))).entries ≡ true
    at true = before
    at false = before
stand_at-table_after holds id (Plain (Delete key)) None all before = refl
stand_at-table_after holds id (Plain (Delete key)) (Some v) all before = before

places_after_item : (holds : EntryPlace → Bool) (id : FileId) (t : Tables) (item : PlacedItem) → are_all_placed holds item.content ≡ true → AreAllPlaced holds t → AreAllPlaced holds (tables_after_item id t item)
places_after_item holds id t item all before = λ group. at (group == item.group) group
  where
    at : (b : Bool) (group : ℕ) → stand_at holds (or_empty (cond b (table_after id item.content (t item.group)) (t group))).entries ≡ true
    at true group = stand_at-table_after holds id item.content (t item.group) all (before item.group)
    at false group = before group

pub places_after : (holds : EntryPlace → Bool) (id : FileId) (t : Tables) (items : List PlacedItem) → list_all (λ item. are_all_placed holds item.content) items ≡ true → AreAllPlaced holds t
    → AreAllPlaced holds (tables_after id t items)
places_after holds id t [] all before = before
places_after holds id t (item ∷ items) all before =
    let parts = and_parts (are_all_placed holds item.content) (list_all (λ i. are_all_placed holds i.content) items) all in
    places_after holds id (tables_after_item id t item) items parts.1 (places_after_item holds id t item parts.0 before)
