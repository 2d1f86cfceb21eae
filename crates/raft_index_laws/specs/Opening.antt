-- What holds while an opening replays the Append queue over the Rewrite queue's tables.
use Rattle.std.specs.Prelude.{◌≡◌, ℕ, ◌<◌, ◌≤◌, Bool, true, false, List, [], ◌∷◌, Option, Some, None, Contains}
use Rattle.std.specs.List.{AllByRecursion as Each}
use Rattle.std.specs.Option.{option_or}
use Rattle.raft_records.specs.Contents.{Contents, entries_below}
use Rattle.raft_records.specs.declared.entry_index.EntryPlace.{EntryPlace}
use Rattle.raft_records.specs.Item.{Entry}
use Rattle.raft_records.specs.Places.{Blocks, entries_in}
use Rattle.raft_records.specs.Validity.{are_consecutive_from}
use Rattle.raft_tables.specs.Counters.{is_rewrite, is_rewritten}
use Rattle.raft_tables.specs.Table.{StoredValue}
use Rattle.raft_tables.specs.Tables.{Tables, or_empty}
use Rattle.raft_tables.specs.Owed.{Marks, Owed}
use Rattle.raft_records.specs.FileBatches.{FileBatch}
use Rattle.raft_index_laws.specs.Standing.{AreInFileOrder, EntryStands, KeyStands, ends_leave, ends_leave_key}

-- while the Append queue has left no entries itself, what stands behind an entry that it left is left
-- too; and where it has, all that it left stands below them
abbrev pub IsLeftBelow : Blocks → List Entry → List (ℕ × EntryPlace) → List (ℕ × EntryPlace) → Type 0
IsLeftBelow blocks held left [] = (o : Entry) → Contains held o
    → Each (λ p. p.0 ≤ o.0 → Contains (entries_in blocks left) o) left
IsLeftBelow blocks held left (f ∷ fs) = Each (λ p. p.0 < f.0) left

-- while the Append queue's entries have no hole and were not compacted, it left all that stands below
-- the first of them, and all where it has none
abbrev pub IsAllLeft : Blocks → List Entry → List (ℕ × EntryPlace) → List (ℕ × EntryPlace) → Type 0
IsAllLeft blocks held left [] = entries_in blocks left ≡ held
IsAllLeft blocks held left (f ∷ fs) = entries_in blocks left ≡ entries_below f.0 held

-- what is true of one group: `older` are the entries that are left of the Rewrite queue's, and
-- `newer` those that the Append queue's batches leave themselves
pub record GroupReplayed (blocks : Blocks) (left : ℕ → ℕ → Bool) (marks : Marks)
    (held : List Entry) (older newer : List (ℕ × EntryPlace)) : Type 0 where
  pub older_run : (n : ℕ) × (are_consecutive_from n older ≡ true)
  pub newer_run : (n : ℕ) × (are_consecutive_from n newer ≡ true)
  pub older_stand : Each (EntryStands blocks left marks held) older
  pub newer_stand : Each (EntryStands blocks left marks held) newer
  pub older_rewritten : Each (λ e. is_rewritten e.1 ≡ true) older
  pub newer_appended : Each (λ e. is_rewritten e.1 ≡ false) newer
  pub ordered : AreInFileOrder 0 newer
  pub below : IsLeftBelow blocks held older newer
  pub whole : marks.cleaned ≡ false → marks.compacted ≡ false
      → IsAllLeft blocks held older newer

-- these batches were replayed: `left` are the tables that are left of the Rewrite queue's, which had
-- the contents x, and `newer` those of the Append queue's batches alone
pub record ReplayStands (blocks : Blocks) (x : Contents) (appended : List FileBatch) (owed : Owed)
    (left newer : Tables) : Type 0 where
  pub entries :
      (group : ℕ) → GroupReplayed blocks (ends_leave appended group) (owed group)
      (x.entries group) (or_empty (left group)).entries (or_empty (newer group)).entries
  pub keys :
      (group : ℕ) (key : List ℕ) → KeyStands (ends_leave_key appended group key) (owed group)
      (x.value group key) key
      (option_or ((or_empty (newer group)).keys key) ((or_empty (left group)).keys key))

-- the value, if any, stands in the Rewrite queue
abbrev pub IsRewrittenValue : Option StoredValue → Type 0
IsRewrittenValue None = Unit {0}
IsRewrittenValue (Some stored) = is_rewrite stored.1.queue ≡ true

-- all of the tables stands in the Rewrite queue
pub record AreRewritten (t : Tables) : Type 0 where
  pub entries : (group : ℕ) → Each (λ e. is_rewritten e.1 ≡ true) (or_empty (t group)).entries
  pub keys : (group : ℕ) (key : List ℕ) → IsRewrittenValue ((or_empty (t group)).keys key)
