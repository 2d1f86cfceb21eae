-- Marks that are owed to the Rewrite queue: what was removed, and may still stand there.
use Rattle.std.specs.Prelude.{ℕ, ◌+◌, ◌==◌, ◌&&◌, ◌||◌, not, nat_lt, Bool, true, false, List, [], ◌∷◌, length, fold, if◌then◌else◌}
use Rattle.std.specs.Str.{bytes_eq}
use Rattle.raft_base.specs.declared.pipe_log.FileId.{FileId}
use Rattle.raft_records.specs.Item.{Entries, Clean, Compact, Put, Delete}
use Rattle.raft_records.specs.PlacedItem.{PlacedContent, EntriesAt, Plain, PlacedItem}
use Rattle.raft_records.specs.Validity.{are_in_order}
use Rattle.raft_tables.specs.Tables.{Tables, or_empty, tables_after_item}

-- the marks that are owed for a group
pub record Marks : Type 0 where
  -- it was cleaned
  pub cleaned : Bool
  -- since then entries of it were compacted
  pub compacted : Bool
  -- and these keys deleted
  pub deleted : List ℕ → Bool

-- no mark is owed
abbrev pub no_marks : Marks
no_marks = record { cleaned = false; compacted = false; deleted = λ _. false }

-- those after a clean, and with a compaction or a delete more
abbrev pub clean_marks : Marks
clean_marks = record { cleaned = true; compacted = false; deleted = λ _. false }

-- a compaction is owed too
abbrev pub with_compaction : Marks → Marks
with_compaction m = record m { compacted = true }

-- a delete of this key is owed too
abbrev pub with_delete : List ℕ → Marks → Marks
with_delete key m = record m { deleted = λ k. bytes_eq k key || m.deleted k }

-- of each group
abbrev pub Owed : Type 0
Owed = ℕ → Marks

-- entries that start here would leave a hole behind these
abbrev pub leaves_hole : {X : Type 0} → List (ℕ × X) → ℕ → Bool
leaves_hole [] start = false
leaves_hole (e ∷ es) start = nat_lt (e.0 + length (e ∷ es)) start

-- the marks after a change of the group, which had these entries. Entries that leave a hole count
-- as a compaction
abbrev pub marks_after : {X : Type 0} → PlacedContent → List (ℕ × X) → Marks → Marks
marks_after (EntriesAt []) es m = m
marks_after (EntriesAt (e ∷ new)) es m =
    if are_in_order (e ∷ new) && leaves_hole es e.0 then with_compaction m else m
marks_after (Plain (Entries entries)) es m = m
marks_after (Plain Clean) es m = clean_marks
marks_after (Plain (Compact index)) es m = with_compaction m
marks_after (Plain (Put key value)) es m = m
marks_after (Plain (Delete key)) es m = with_delete key m

-- the marks after an item, where the tables were these before it
abbrev pub owed_after_item : Tables → PlacedItem → Owed → Owed
owed_after_item t item owed = λ g.
    if g == item.group
    then marks_after item.content (or_empty (t item.group)).entries (owed item.group)
    else owed g

-- the marks after items that stand in a file, in order
abbrev pub owed_after : FileId → Tables → List PlacedItem → Owed → Owed
owed_after id t [] owed = owed
owed_after id t (item ∷ items) owed =
    owed_after id (tables_after_item id t item) items (owed_after_item t item owed)

-- those of older changes of a group and then of newer ones
abbrev pub marks_then : Marks → Marks → Marks
marks_then older newer = if newer.cleaned then newer else record {
  cleaned = older.cleaned;
  compacted = newer.compacted || older.compacted;
  deleted = λ k. newer.deleted k || older.deleted k;
}

-- a written mark is owed no more
abbrev pub without_delete : List ℕ → Marks → Marks
without_delete key m = record m { deleted = λ k. not (bytes_eq k key) && m.deleted k }

-- the marks without the clean
abbrev pub without_clean : Marks → Marks
without_clean m = record m { cleaned = false }

-- the marks without the compaction
abbrev pub without_compaction : Marks → Marks
without_compaction m = record m { compacted = false }

-- the marks with others of one group
abbrev pub with_marks : ℕ → Marks → Owed → Owed
with_marks group marks owed = λ g. if g == group then marks else owed g

-- the marks after a change that leaves no hole, as each of a valid batch does
abbrev pub marks_noted : PlacedContent → Marks → Marks
marks_noted (EntriesAt entries) m = m
marks_noted (Plain (Entries entries)) m = m
marks_noted (Plain Clean) m = clean_marks
marks_noted (Plain (Compact index)) m = with_compaction m
marks_noted (Plain (Put key value)) m = m
marks_noted (Plain (Delete key)) m = with_delete key m

-- what is owed after an item that leaves no hole
abbrev pub owed_noted_by : Owed → PlacedItem → Owed
owed_noted_by owed item =
    with_marks item.group (marks_noted item.content (owed item.group)) owed

-- what is owed after such items, in order
abbrev pub owed_noted : Owed → List PlacedItem → Owed
owed_noted owed items = fold owed_noted_by owed items

-- without its clean, and without all else
abbrev pub without_pending : Marks → Marks
without_pending m = record { cleaned = m.cleaned; compacted = false; deleted = λ _. false }
