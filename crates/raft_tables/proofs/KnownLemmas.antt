-- Which groups are known after items.
use Rattle.std.proofs.Common.{◌≡◌, ℕ, ◌==◌, ◌&&◌, Bool, true, false, cond, List, [], ◌∷◌, Option, Some, None, is_some, map, refl, ◌∙◌, ap, sym, arith}
use Rattle.std.specs.List.{list_all}
use Rattle.std.specs.Option.{option_map}
use Rattle.std.specs.Str.{bytes_eq}
use Rattle.std.proofs.lemmas.Grind.{common_steps}
use Rattle.raft_base.specs.declared.pipe_log.FileId.{FileId}
use Rattle.raft_records.specs.Item.{Entries, Clean, Compact, Put, Delete, group_mark_key}
use Rattle.raft_records.specs.PlacedItem.{PlacedContent, EntriesAt, Plain, PlacedItem, content_in, item_in, is_placed_in_order}
use Rattle.raft_records.specs.Places.{Blocks}
use Rattle.raft_tables.specs.Known.{known_after_content, known_after_item, known_after}
use Rattle.raft_tables.specs.Table.{TableView}
use Rattle.raft_tables.specs.Tables.{Tables, table_after, tables_after_item, tables_after}

is_some-map : {A B : Type 0} (f : A → B) (o : Option A) → is_some (option_map f o) ≡ is_some o
is_some-map f None = refl
is_some-map f (Some x) = refl

is_some-cond : {A : Type 0} (b : Bool) (x : A) (o : Option A) → is_some (cond b o (Some x)) ≡ cond b (is_some o) true
is_some-cond true x o = refl
is_some-cond false x o = refl

pub known_after_change : (id : FileId) (blocks : Blocks) (c : PlacedContent) (t : Option TableView) → is_placed_in_order c ≡ true → is_some (table_after id c t) ≡ known_after_content (is_some t) (content_in blocks c)
known_after_change id blocks (EntriesAt []) t in_order = refl
known_after_change id blocks (EntriesAt (e ∷ es)) t in_order = rw in_order refl
known_after_change id blocks (Plain (Entries entries)) t in_order = absurd cc
known_after_change id blocks (Plain Clean) t in_order = refl
known_after_change id blocks (Plain (Compact index)) t in_order = is_some-map _ t
known_after_change id blocks (Plain (Put key value)) t in_order = is_some-cond (bytes_eq key group_mark_key) _ t
known_after_change id blocks (Plain (Delete key)) t in_order = is_some-map _ t

known_after_one : (id : FileId) (blocks : Blocks) (group : ℕ) (t : Tables) (item : PlacedItem) → is_placed_in_order item.content ≡ true → is_some (tables_after_item id t item group) ≡ known_after_item group (is_some (t group)) (item_in blocks item)
known_after_one id blocks group t item in_order = at (group == item.group) refl
  where
    eq_from_test : (a b : ℕ) → (a == b) ≡ true → a ≡ b
    eq_from_test a b same = grind (arith, common_steps)

    at : (b : Bool) → (group == item.group) ≡ b → is_some (cond b (table_after id item.content (t item.group)) (t group)) ≡ cond b (known_after_content (is_some (t group)) (content_in blocks item.content)) (is_some (t group))
    at true here = known_after_change id blocks item.content (t item.group) in_order ∙ ap (λ (g : ℕ). known_after_content (is_some (t g)) (content_in blocks item.content)) (sym (eq_from_test group item.group here))
    at false here = refl

both : (a b : Bool) → (a && b) ≡ true → (a ≡ true) × (b ≡ true)
both true true is = (refl, refl)
both true false is = absurd cc
both false b is = absurd cc

pub known_after_items : (id : FileId) (blocks : Blocks) (group : ℕ) (t : Tables) (items : List PlacedItem) → list_all (λ item. is_placed_in_order item.content) items ≡ true
    → is_some (tables_after id t items group) ≡ known_after group (is_some (t group)) (map (item_in blocks) items)
known_after_items id blocks group t [] in_order = refl
known_after_items id blocks group t (item ∷ items) in_order =
    let parts = both (is_placed_in_order item.content) (list_all (λ i. is_placed_in_order i.content) items) in_order in
    known_after_items id blocks group (tables_after_item id t item) items parts.1
    ∙ ap (λ k. known_after group k (map (item_in blocks) items)) (known_after_one id blocks group t item parts.0)
