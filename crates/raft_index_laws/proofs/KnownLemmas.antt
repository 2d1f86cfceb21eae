-- Which groups are known, and where entries stand, after items were written again.
use Rattle.std.proofs.Common.{◌≡◌, ℕ, ◌==◌, ◌&&◌, Bool, true, false, cond, List, [], ◌∷◌, map, Option, Some, None, is_some, refl, sym, ◌∙◌, ap}
use Rattle.std.specs.List.{list_all}
use Rattle.std.specs.Option.{option_map}
use Rattle.std.specs.Str.{bytes_eq}
use Rattle.std.proofs.lemmas.Bool.{and_parts}
use Rattle.raft_base.specs.declared.pipe_log.FileId.{FileId}
use Rattle.raft_records.specs.declared.entry_index.EntryPlace.{EntryPlace}
use Rattle.raft_records.specs.Item.{Entries, Clean, Compact, Put, Delete, group_mark_key}
use Rattle.raft_records.specs.PlacedItem.{PlacedContent, EntriesAt, Plain, PlacedItem, are_all_placed}
use Rattle.raft_tables.specs.MovedEntries.{entries_moved, entry_moved, may_move_from}
use Rattle.raft_tables.specs.Moving.{table_moved, tables_moved, tables_moved_by, value_moved}
use Rattle.raft_tables.specs.Table.{TableView, with_key}
use Rattle.raft_tables.specs.Tables.{AreAllPlaced, Tables, or_empty}
use Rattle.raft_index_laws.proofs.KeyLemmas.{eq_from_test}

known_content : (watermark : Option ℕ) (id : FileId) (c : PlacedContent) (t : Option TableView) → is_some (table_moved watermark id c t) ≡ is_some t
known_content watermark id (EntriesAt new) None = refl
known_content watermark id (EntriesAt new) (Some v) = refl
known_content watermark id (Plain (Entries entries)) t = refl
known_content watermark id (Plain Clean) t = refl
known_content watermark id (Plain (Compact index)) t = refl
known_content watermark id (Plain (Put key value)) t = at (bytes_eq key group_mark_key) t
  where
    at : (b : Bool) (u : Option TableView) → is_some (cond b u (option_map (λ v. with_key key (option_map (value_moved watermark id) (v.keys key)) v) u)) ≡ is_some u
    at true u = refl
    at false None = refl
    at false (Some v) = refl
known_content watermark id (Plain (Delete key)) t = refl

known_item : (watermark : Option ℕ) (id : FileId) (t : Tables) (item : PlacedItem) (g : ℕ) → is_some (tables_moved_by watermark id t item g) ≡ is_some (t g)
known_item watermark id t item g = at (g == item.group) refl
  where
    at : (b : Bool) → (g == item.group) ≡ b → is_some (cond b (table_moved watermark id item.content (t item.group)) (t g)) ≡ is_some (t g)
    at true same = known_content watermark id item.content (t item.group) ∙ ap (λ h. is_some (t h)) (sym (eq_from_test g item.group same))
    at false other = refl

pub moved_known : (watermark : Option ℕ) (id : FileId) (t : Tables) (items : List PlacedItem) (g : ℕ) → is_some (tables_moved watermark id t items g) ≡ is_some (t g)
moved_known watermark id t [] g = refl
moved_known watermark id t (item ∷ items) g = moved_known watermark id (tables_moved_by watermark id t item) items g ∙ known_item watermark id t item g

abbrev pub stand : (EntryPlace → Bool) → List (ℕ × EntryPlace) → Bool
stand holds es = list_all (λ e. holds e.1) es

both : {a b : Bool} → a ≡ true → b ≡ true → (a && b) ≡ true
both p q = cc

one_stands : (holds : EntryPlace → Bool) (watermark : Option ℕ) (new : ℕ × EntryPlace) (es : List (ℕ × EntryPlace)) → holds new.1 ≡ true → stand holds es ≡ true → stand holds (map (entry_moved watermark new) es) ≡ true
one_stands holds watermark new [] is all = refl
one_stands holds watermark new (e ∷ es) is all =
    let parts = and_parts (holds e.1) (stand holds es) all in
    both (at ((e.0 == new.0) && may_move_from watermark e.1) parts.0) (one_stands holds watermark new es is parts.1)
  where
    at : (b : Bool) → holds e.1 ≡ true → holds (cond b (e.0, new.1) e).1 ≡ true
    at true old = is
    at false old = old

all_stand : (holds : EntryPlace → Bool) (watermark : Option ℕ) (new es : List (ℕ × EntryPlace)) → stand holds new ≡ true → stand holds es ≡ true → stand holds (entries_moved watermark new es) ≡ true
all_stand holds watermark [] es is all = all
all_stand holds watermark (n ∷ new) es is all =
    let parts = and_parts (holds n.1) (stand holds new) is in
    all_stand holds watermark new (map (entry_moved watermark n) es) parts.1 (one_stands holds watermark n es parts.0 all)

content_stands : (holds : EntryPlace → Bool) (watermark : Option ℕ) (id : FileId) (c : PlacedContent) (t : Option TableView) → are_all_placed holds c ≡ true → stand holds (or_empty t).entries ≡ true → stand holds (or_empty (table_moved watermark id c t)).entries ≡ true
content_stands holds watermark id (EntriesAt new) None is all = refl
content_stands holds watermark id (EntriesAt new) (Some v) is all = all_stand holds watermark new v.entries is all
content_stands holds watermark id (Plain (Entries entries)) t is all = all
content_stands holds watermark id (Plain Clean) t is all = all
content_stands holds watermark id (Plain (Compact index)) t is all = all
content_stands holds watermark id (Plain (Put key value)) t is all = at (bytes_eq key group_mark_key) t all
  where
    at : (b : Bool) (u : Option TableView) → stand holds (or_empty u).entries ≡ true → stand holds (or_empty (cond b u (option_map (λ v. with_key key (option_map (value_moved watermark id) (v.keys key)) v) u))).entries ≡ true
    at true u old = old
    at false None old = refl
    at false (Some v) old = old
content_stands holds watermark id (Plain (Delete key)) t is all = all

item_stands : (holds : EntryPlace → Bool) (watermark : Option ℕ) (id : FileId) (t : Tables) (item : PlacedItem) → are_all_placed holds item.content ≡ true → AreAllPlaced holds t → AreAllPlaced holds (tables_moved_by watermark id t item)
item_stands holds watermark id t item is all g = at (g == item.group)
  where
    at : (b : Bool) → stand holds (or_empty (cond b (table_moved watermark id item.content (t item.group)) (t g))).entries ≡ true
    at true = content_stands holds watermark id item.content (t item.group) is (all item.group)
    at false = all g

pub moved_places : (holds : EntryPlace → Bool) (watermark : Option ℕ) (id : FileId) (t : Tables) (items : List PlacedItem) → list_all (λ item. are_all_placed holds item.content) items ≡ true → AreAllPlaced holds t → AreAllPlaced holds (tables_moved watermark id t items)
moved_places holds watermark id t [] is all = all
moved_places holds watermark id t (item ∷ items) is all =
    let parts = and_parts (are_all_placed holds item.content) (list_all (λ i. are_all_placed holds i.content) items) is in
    moved_places holds watermark id (tables_moved_by watermark id t item) items parts.1 (item_stands holds watermark id t item parts.0 all)
