-- Marks that are owed, as items of a batch.
use Rattle.std.specs.Prelude.{◌≡◌, ℕ, ◌-◌, ◌^◌, ◌&&◌, true, false, List, [], ◌∷◌, ◌++◌, fold, None, is_some}
use Rattle.std.specs.Cmp.Lexicographic.{slice_cmp}
use Rattle.std.specs.List.Sorted.{IsStrictlySortedBy}
use Rattle.std.specs.Ordering.{nat_cmp, ordering_then}
use Rattle.std.specs.declared.cmp.Ordering.{Ordering}
use Rattle.raft_records.specs.Batch.{BatchView, batch_of}
use Rattle.raft_records.specs.Item.{Content, Item, Entries, Clean, Compact, Put, Delete}
use Rattle.raft_tables.specs.Owed.{Marks, Owed, with_marks, without_clean, without_compaction, without_delete}
use Rattle.raft_tables.specs.Table.{TableView}
use Rattle.raft_tables.specs.Tables.{Tables, or_empty}

-- the index of a compaction's mark: the first that is there, or one above all where none is
abbrev pub mark_index : {X : Type 0} → List (ℕ × X) → ℕ
mark_index [] = 2 ^ 64 - 1
mark_index (e ∷ es) = e.0

-- the change is a mark that is owed for a group with this table: a delete of a key that isn't there
abbrev pub IsOwed : Marks → TableView → Content → Type 0
IsOwed m t (Entries entries) = ⊥
IsOwed m t Clean = m.cleaned ≡ true
IsOwed m t (Compact index) = (m.compacted ≡ true) × (index ≡ mark_index t.entries)
IsOwed m t (Put key value) = ⊥
IsOwed m t (Delete key) = (m.deleted key ≡ true) × (t.keys key ≡ None)

-- the marks that are left once this one is written
abbrev pub marks_left : Content → Marks → Marks
marks_left (Entries entries) m = m
marks_left Clean m = without_clean m
marks_left (Compact index) m = without_compaction m
marks_left (Put key value) m = m
marks_left (Delete key) m = without_delete key m

-- what is owed once this mark is written
abbrev pub owed_left_by : Owed → Item → Owed
owed_left_by owed item = with_marks item.group (marks_left item.content (owed item.group)) owed

-- what is owed once these marks are written, in order
abbrev pub owed_left : Owed → List Item → Owed
owed_left owed items = fold owed_left_by owed items

-- each is owed when its turn comes, so none stands twice
abbrev pub AreOwed : Tables → Owed → List Item → Type 0
AreOwed t owed [] = Unit {0}
AreOwed t owed (item ∷ items) =
    IsOwed (owed item.group) (or_empty (t item.group)) item.content
    × AreOwed t (owed_left_by owed item) items

-- in which order marks stand: cleans before deletes before compactions, each by their groups, and
-- deletes of one group by their keys
abbrev pub kind_of : Content → ℕ
kind_of (Entries entries) = 0
kind_of Clean = 1
kind_of (Compact index) = 3
kind_of (Put key value) = 0
kind_of (Delete key) = 2

-- the key of a content; empty if it has none
abbrev pub key_in : Content → List ℕ
key_in (Entries entries) = []
key_in Clean = []
key_in (Compact index) = []
key_in (Put key value) = key
key_in (Delete key) = key

-- the order in which marks are written: by kind, then by group, then by key
abbrev pub mark_cmp : Item → Item → Ordering
mark_cmp a b = ordering_then (nat_cmp (kind_of a.content) (kind_of b.content))
    (ordering_then (nat_cmp a.group b.group)
    (slice_cmp nat_cmp (key_in a.content) (key_in b.content)))

-- the batch with these items behind its own
abbrev pub with_items : BatchView → List Item → BatchView
with_items batch [] = batch
with_items batch (item ∷ items) = batch_of (batch.items ++ item ∷ items)

-- a batch got marks: each is owed, in order, and once they are written this is owed still
pub record GetsMarks (t : Tables) (owed left : Owed) (old new : BatchView) : Type 0 where
  pub marks : List Item
  pub added : new ≡ with_items old marks
  pub each : AreOwed t owed marks
  pub rest : owed_left owed marks ≡ left
  pub ascending : IsStrictlySortedBy mark_cmp marks

-- what is owed once each clean is written
abbrev pub without_cleans : Owed → Owed
without_cleans owed group = without_clean (owed group)

-- what is owed once all else is: deletes of keys that are there again
abbrev pub owed_again : Tables → Owed → Owed
owed_again t owed group = record {
  cleaned = (owed group).cleaned;
  compacted = false;
  deleted = λ key. (owed group).deleted key && is_some ((or_empty (t group)).keys key);
}
