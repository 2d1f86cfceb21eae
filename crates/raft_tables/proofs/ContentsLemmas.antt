-- What the tables stand for after items: the contents after the same items with bytes.
use Rattle.std.proofs.Common.{◌≡◌, ℕ, ◌==◌, ◌&&◌, Bool, true, false, cond, List, [], ◌∷◌, Option, Some, None, map, refl, sym, ◌∙◌, ap, arith}
use Rattle.std.specs.Prelude.{nat_le}
use Rattle.std.specs.List.{filter, list_all}
use Rattle.std.specs.Option.{option_map}
use Rattle.std.specs.Str.{bytes_eq}
use Rattle.std.proofs.lemmas.Grind.{common_steps}
use Rattle.raft_base.specs.declared.pipe_log.FileId.{FileId}
use Rattle.raft_records.specs.Contents.{Contents, with_entries, after_content, after_batch}
use Rattle.raft_records.specs.Item.{Entry, Entries, Clean, Compact, Put, Delete, group_mark_key}
use Rattle.raft_records.specs.PlacedItem.{PlacedContent, EntriesAt, Plain, PlacedItem, content_in, item_in, is_placed_in_order}
use Rattle.raft_records.specs.Places.{Blocks, entries_in}
use Rattle.raft_records.proofs.PlacesLemmas.{with_entries_in, compact_in}
use Rattle.raft_tables.specs.Table.{StoredValue, TableView, value_at, with_entries_at, with_key}
use Rattle.raft_tables.specs.Tables.{Tables, or_empty, value_in, contents_in, table_after, with_table, tables_after_item, tables_after}

eq_from_test : (a b : ℕ) → (a == b) ≡ true → a ≡ b
eq_from_test a b same = grind (arith, common_steps)

-- the contents with this in one group
abbrev pub with_group : ℕ → List Entry → (List ℕ → Option (List ℕ)) → Contents → Contents
with_group group entries values m = record {
  entries = λ g. cond (g == group) entries (m.entries g);
  value = λ g k. cond (g == group) (values k) (m.value g k);
}

-- what a group has, put into it again
pub same_at : {X : Type 0} (group g : ℕ) (f : ℕ → X) → cond (g == group) (f group) (f g) ≡ f g
same_at {X} group g f = at (g == group) refl
  where
    at : (b : Bool) → (g == group) ≡ b → cond b (f group) (f g) ≡ f g
    at true here = ap f (sym (eq_from_test g group here))
    at false here = refl

cond-of : {A B : Type 0} (f : A → B) (b : Bool) (x y : A) → f (cond b x y) ≡ cond b (f x) (f y)
cond-of f true x y = refl
cond-of f false x y = refl

-- the contents with another table of a group
pub contents-with_table : (blocks : Blocks) (group : ℕ) (v : Option TableView) (t : Tables) → contents_in blocks (with_table group v t) ≡ with_group group (entries_in blocks (or_empty v).entries) (value_at (or_empty v)) (contents_in blocks t)
contents-with_table blocks group v t = λ i. record {
  entries = λ g. cond-of (λ (o : Option TableView). entries_in blocks (or_empty o).entries) (g == group) v (t g) i;
  value = λ g k. cond-of (λ (o : Option TableView). value_at (or_empty o) k) (g == group) v (t g) i;
}

nothing_changes : (m : Contents) (group : ℕ) → with_group group (m.entries group) (m.value group) m ≡ m
nothing_changes m group = λ i. record { entries = λ g. same_at group g m.entries i; value = λ g k. same_at group g (λ h. m.value h k) i }

entries_change : (m : Contents) (group : ℕ) (es new : List Entry) → es ≡ new → with_group group es (m.value group) m ≡ record { entries = λ g. cond (g == group) new (m.entries g); value = m.value }
entries_change m group es new is = λ i. record { entries = λ g. cond (g == group) (is i) (m.entries g); value = λ g k. same_at group g (λ h. m.value h k) i }

key_changes : (m : Contents) (group : ℕ) (key : List ℕ) (w : Option (List ℕ)) (values : List ℕ → Option (List ℕ)) → ((k : List ℕ) → values k ≡ cond (bytes_eq k key) w (m.value group k))
    → with_group group (m.entries group) values m ≡ record { entries = m.entries; value = λ g k. cond (g == group && bytes_eq k key) w (m.value g k) }
key_changes m group key w values is = λ i. record { entries = λ g. same_at group g m.entries i; value = λ g k. at g k (g == group) refl i }
  where
    at : (g : ℕ) (k : List ℕ) (b : Bool) → (g == group) ≡ b → cond b (values k) (m.value g k) ≡ cond (b && bytes_eq k key) w (m.value g k)
    at g k true here = is k ∙ ap (λ h. cond (bytes_eq k key) w (m.value h k)) (sym (eq_from_test g group here))
    at g k false here = refl

value-with_key : (t : TableView) (key : List ℕ) (w : Option StoredValue) (k : List ℕ) → value_at (with_key key w t) k ≡ cond (bytes_eq k key) (option_map (λ s. s.0) w) (value_at t k)
value-with_key t key w k = cond-of (option_map (λ s. s.0)) (bytes_eq k key) w (t.keys k)

-- a table that isn't there, or one that is
or_empty-compact : (index : ℕ) (o : Option TableView) → or_empty (option_map (λ v. with_entries_at (filter (λ e. nat_le index e.0) v.entries) v) o) ≡ with_entries_at (filter (λ e. nat_le index e.0) (or_empty o).entries) (or_empty o)
or_empty-compact index None = refl
or_empty-compact index (Some v) = refl

pub value-delete : (key : List ℕ) (o : Option TableView) (k : List ℕ) → value_at (or_empty (option_map (with_key key None) o)) k ≡ cond (bytes_eq k key) None (value_at (or_empty o) k)
value-delete key None k = nothing (bytes_eq k key)
  where
    nothing : (b : Bool) → ◌≡◌ {A = Option (List ℕ)} None (cond b None None)
    nothing true = refl
    nothing false = refl
value-delete key (Some v) k = value-with_key v key None k

pub entries-delete : (key : List ℕ) (o : Option TableView) → (or_empty (option_map (with_key key None) o)).entries ≡ (or_empty o).entries
entries-delete key None = refl
entries-delete key (Some v) = refl

pub contents_after_item : (id : FileId) (blocks : Blocks) (t : Tables) (group : ℕ) (c : PlacedContent) → is_placed_in_order c ≡ true → contents_in blocks (with_table group (table_after id c (t group)) t) ≡ after_content group (content_in blocks c) (contents_in blocks t)
contents_after_item id blocks t group (EntriesAt []) in_order =
    contents-with_table blocks group (t group) t ∙ entries_change (contents_in blocks t) group _ _ refl
contents_after_item id blocks t group (EntriesAt (e ∷ es)) in_order =
    let new = with_entries_at (with_entries (or_empty (t group)).entries (e ∷ es)) (or_empty (t group)) in
    ap (λ b. contents_in blocks (with_table group (cond b (Some new) (t group)) t)) in_order
    ∙ contents-with_table blocks group (Some new) t
    ∙ entries_change (contents_in blocks t) group _ _ (sym (with_entries_in blocks (or_empty (t group)).entries (e ∷ es)))
contents_after_item id blocks t group (Plain (Entries entries)) in_order = absurd cc
contents_after_item id blocks t group (Plain Clean) in_order = contents-with_table blocks group None t
contents_after_item id blocks t group (Plain (Compact index)) in_order =
    let v = table_after id (Plain (Compact index)) (t group) in
    contents-with_table blocks group v t
    ∙ ap (λ (x : TableView). with_group group (entries_in blocks x.entries) (value_at x) (contents_in blocks t)) (or_empty-compact index (t group))
    ∙ entries_change (contents_in blocks t) group _ _ (sym (compact_in blocks index (or_empty (t group)).entries))
contents_after_item id blocks t group (Plain (Put key value)) in_order = at (bytes_eq key group_mark_key)
  where
    new : Option TableView
    new = Some (with_key key (Some (value, id)) (or_empty (t group)))

    at : (b : Bool) → contents_in blocks (with_table group (cond b (t group) new) t) ≡ cond b (contents_in blocks t) (record { entries = (contents_in blocks t).entries; value = λ g k. cond (g == group && bytes_eq k key) (Some value) (value_in t g k) })
    at true = contents-with_table blocks group (t group) t ∙ nothing_changes (contents_in blocks t) group
    at false = contents-with_table blocks group new t ∙ key_changes (contents_in blocks t) group key (Some value) _ (λ k. value-with_key (or_empty (t group)) key (Some (value, id)) k)
contents_after_item id blocks t group (Plain (Delete key)) in_order =
    contents-with_table blocks group (option_map (with_key key None) (t group)) t
    ∙ ap (λ es. with_group group (entries_in blocks es) (value_at (or_empty (option_map (with_key key None) (t group)))) (contents_in blocks t)) (entries-delete key (t group))
    ∙ key_changes (contents_in blocks t) group key None _ (value-delete key (t group))

both : (a b : Bool) → (a && b) ≡ true → (a ≡ true) × (b ≡ true)
both true true is = (refl, refl)
both true false is = absurd cc
both false b is = absurd cc

pub contents_after : (id : FileId) (blocks : Blocks) (t : Tables) (items : List PlacedItem) → list_all (λ item. is_placed_in_order item.content) items ≡ true
    → contents_in blocks (tables_after id t items) ≡ after_batch (contents_in blocks t) (map (item_in blocks) items)
contents_after id blocks t [] in_order = refl
contents_after id blocks t (item ∷ items) in_order =
    let parts = both (is_placed_in_order item.content) (list_all (λ i. is_placed_in_order i.content) items) in_order in
    contents_after id blocks (tables_after_item id t item) items parts.1
    ∙ ap (λ m. after_batch m (map (item_in blocks) items)) (contents_after_item id blocks t item.group item.content parts.0)
