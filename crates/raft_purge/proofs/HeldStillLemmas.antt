-- New files of the Rewrite queue hold all that the tables place there still, once the Append queue took a
-- batch.
use Rattle.std.proofs.Common.{◌≡◌, ◌∙◌, ℕ, ◌==◌, Bool, true, false, cond, List, [], ◌∷◌, ◌++◌, Option, Some, None, refl, sym, subst}
use Rattle.std.specs.List.{AllByRecursion as Each}
use Rattle.std.specs.Prelude.{nat_le, nat_lt}
use Rattle.std.specs.Str.{bytes_eq}
use Rattle.raft_base.specs.declared.pipe_log.FileId.{FileId}
use Rattle.raft_base.specs.declared.pipe_log.LogQueue.TheVariants.{Append}
use Rattle.raft_records.specs.Contents.{Contents, entries_below, is_next_to, with_entries}
use Rattle.raft_records.specs.declared.entry_index.EntryPlace.{EntryPlace}
use Rattle.raft_records.specs.FileBatches.{AreInFile, IsInFile}
use Rattle.raft_records.specs.Item.{Entries, Entry, Clean, Compact, Put, Delete, group_mark_key}
use Rattle.raft_records.specs.PlacedItem.{EntriesAt, Plain, PlacedContent, PlacedItem}
use Rattle.raft_records.specs.Places.{Blocks, entry_in}
use Rattle.raft_records.specs.Validity.{are_in_order}
use Rattle.raft_recovery_laws.proofs.EachLemmas.{each_append, each_filter, each_map}
use Rattle.raft_tables.specs.Table.{StoredValue, TableView, with_entries_at, with_key}
use Rattle.raft_tables.specs.Tables.{Tables, or_empty, table_after, tables_after, tables_after_item}
use Rattle.raft_index_laws.proofs.KeyLemmas.{eq_from_test, stored-after, stored_after}
use Rattle.raft_index_laws.specs.DroppingOld.{HoldsFrom, IsHeldFrom, IsValueHeldFrom}

-- Entries of which each is so, or is set anew by one that is.

module _ (P : ℕ × EntryPlace → Type 0) where
  abbrev ContentIs : PlacedContent → Type 0
  ContentIs (EntriesAt es) = Each P es
  ContentIs (Plain content) = Unit {0}

  with_both : (old new : List (ℕ × EntryPlace)) → Each P old → Each P new → Each P (with_entries old new)
  with_both old [] is_old is_new = is_old
  with_both old (e ∷ es) is_old is_new = at (is_next_to old e.0)
    where
      at : (b : Bool) → Each P (cond b (entries_below e.0 old ++ (e ∷ es)) (e ∷ es))
      at true = each_append P (entries_below e.0 old) (e ∷ es) (each_filter P (λ x. nat_lt x.0 e.0) old is_old) is_new
      at false = is_new

  entries_applied : (id : FileId) (c : PlacedContent) (t : Option TableView) → ContentIs c → Each P (or_empty t).entries → Each P (or_empty (table_after id c t)).entries
  entries_applied id (EntriesAt []) t is old = old
  entries_applied id (EntriesAt (e ∷ es)) t is old = at (are_in_order (e ∷ es))
    where
      at : (b : Bool) → Each P (or_empty (cond b (Some (with_entries_at (with_entries (or_empty t).entries (e ∷ es)) (or_empty t))) t)).entries
      at true = with_both (or_empty t).entries (e ∷ es) old is
      at false = old
  entries_applied id (Plain (Entries entries)) t is old = old
  entries_applied id (Plain Clean) t is old = tt
  entries_applied id (Plain (Compact index)) None is old = tt
  entries_applied id (Plain (Compact index)) (Some v) is old = each_filter P (λ e. nat_le index e.0) v.entries old
  entries_applied id (Plain (Put key value)) t is old = at (bytes_eq key group_mark_key)
    where
      at : (b : Bool) → Each P (or_empty (cond b t (Some (with_key key (Some (value, id)) (or_empty t))))).entries
      at true = old
      at false = old
  entries_applied id (Plain (Delete key)) None is old = tt
  entries_applied id (Plain (Delete key)) (Some v) is old = old

abbrev pub in_append : ℕ → FileId
in_append seq = record { queue = Append; seq = seq }

-- A value, which the Append queue takes from the Rewrite queue at the most.

value_applied : (first seq : ℕ) (held : Option (List ℕ)) (k : List ℕ) (c : PlacedContent) (s : Option StoredValue) → IsValueHeldFrom first held s → IsValueHeldFrom first held (stored_after (in_append seq) k c s)
value_applied first seq held k (EntriesAt entries) s old = old
value_applied first seq held k (Plain (Entries entries)) s old = old
value_applied first seq held k (Plain Clean) s old = tt
value_applied first seq held k (Plain (Compact index)) s old = old
value_applied first seq held k (Plain (Put key value)) s old = at (bytes_eq key group_mark_key) (bytes_eq k key)
  where
    at : (mark same : Bool) → IsValueHeldFrom first held (cond mark s (cond same (Some (value, in_append seq)) s))
    at true same = old
    at false true = λ rewrite. absurd (let clash = rewrite in cc)
    at false false = old
value_applied first seq held k (Plain (Delete key)) s old = at (bytes_eq k key)
  where
    at : (same : Bool) → IsValueHeldFrom first held (cond same None s)
    at true = tt
    at false = old

-- Entries in the Append queue.

entry_of_append : (first seq : ℕ) (held : List Entry) (given : Entry) (e : ℕ × EntryPlace) → IsInFile Append seq e → IsHeldFrom first held given e.1.block
entry_of_append first seq held given e is = subst (IsHeldFrom first held given) (sym is.1) (λ rewrite. absurd (let clash = sym is.3 ∙ rewrite in cc))

module _ (blocks : Blocks) (first seq : ℕ) (x : Contents) where
  abbrev IsHeldIn : ℕ → ℕ × EntryPlace → Type 0
  IsHeldIn g e = IsHeldFrom first (x.entries g) (entry_in blocks e) e.1.block

  content_of_append : (g : ℕ) (c : PlacedContent) → AreInFile Append seq c → ContentIs (IsHeldIn g) c
  content_of_append g (EntriesAt es) are = each_map (IsInFile Append seq) (IsHeldIn g) es (λ e is. entry_of_append first seq (x.entries g) (entry_in blocks e) e is) are
  content_of_append g (Plain content) are = tt

  item_held : (t : Tables) (item : PlacedItem) → AreInFile Append seq item.content → HoldsFrom blocks first x t → HoldsFrom blocks first x (tables_after_item (in_append seq) t item)
  item_held t item placed holds = record { entries = λ g. at_entries g (g == item.group) refl; keys = λ g k. at_key g k (g == item.group) refl }
    where
      at_entries : (g : ℕ) (b : Bool) → (g == item.group) ≡ b → Each (IsHeldIn g) (or_empty (cond b (table_after (in_append seq) item.content (t item.group)) (t g))).entries
      at_entries g true here =
          entries_applied (IsHeldIn g) (in_append seq) item.content (t item.group) (content_of_append g item.content placed)
          (subst (λ (h : ℕ). Each (IsHeldIn g) (or_empty (t h)).entries) (eq_from_test g item.group here) (holds.entries g))
      at_entries g false other = holds.entries g

      at_key : (g : ℕ) (k : List ℕ) (b : Bool) → (g == item.group) ≡ b → IsValueHeldFrom first (x.value g k) ((or_empty (cond b (table_after (in_append seq) item.content (t item.group)) (t g))).keys k)
      at_key g k true here =
          subst (IsValueHeldFrom first (x.value g k)) (sym (stored-after (in_append seq) item.content (t item.group) k))
          (value_applied first seq (x.value g k) k item.content ((or_empty (t item.group)).keys k) (subst (λ (h : ℕ). IsValueHeldFrom first (x.value g k) ((or_empty (t h)).keys k)) (eq_from_test g item.group here) (holds.keys g k)))
      at_key g k false other = holds.keys g k

  pub held_after : (t : Tables) (items : List PlacedItem) → Each (λ item. AreInFile Append seq item.content) items → HoldsFrom blocks first x t → HoldsFrom blocks first x (tables_after (in_append seq) t items)
  held_after t [] placed holds = holds
  held_after t (item ∷ items) placed holds = held_after (tables_after_item (in_append seq) t item) items placed.1 (item_held t item placed.0 holds)
