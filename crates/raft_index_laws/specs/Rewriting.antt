-- Which items may be written to the Rewrite queue again, and which marks.
use Rattle.std.specs.Prelude.{◌≡◌, ℕ, ◌<◌, true, false, List, [], ◌∷◌, ◌++◌, Option, Some, None}
use Rattle.std.specs.List.{AllByRecursion as Each}
use Rattle.raft_base.specs.declared.pipe_log.FileId.{FileId}
use Rattle.raft_records.specs.declared.entry_index.EntryPlace.{EntryPlace}
use Rattle.raft_records.specs.Item.{Entry, Item, Entries, Clean, Compact, Put, Delete}
use Rattle.raft_records.specs.PlacedItem.{PlacedContent, EntriesAt, Plain, PlacedItem}
use Rattle.raft_records.specs.Places.{Blocks, entries_in}
use Rattle.raft_tables.specs.Counters.{is_rewritten}
use Rattle.raft_tables.specs.MovedEntries.{may_move, may_move_from}
use Rattle.raft_tables.specs.Moving.{tables_moved_by}
use Rattle.raft_tables.specs.Owed.{Owed}
use Rattle.raft_tables.specs.Tables.{Tables, or_empty}
use Rattle.raft_index_laws.specs.Standing.{are_rewritten}

-- new entries have the indexes of these, which may get their places
abbrev pub GetPlaces : Option ℕ → List (ℕ × EntryPlace) → List (ℕ × EntryPlace) → Type 0
GetPlaces watermark [] [] = Unit {0}
GetPlaces watermark [] (n ∷ new) = ⊥
GetPlaces watermark (e ∷ es) [] = ⊥
GetPlaces watermark (e ∷ es) (n ∷ new) =
    (n.0 ≡ e.0) × (may_move_from watermark e.1 ≡ true) × GetPlaces watermark es new

-- new entries are a part of a group's entries: behind those that stand in the Rewrite queue, if any,
-- and before none that stands there
pub record ArePart (watermark : Option ℕ) (blocks : Blocks) (es new : List (ℕ × EntryPlace))
    : Type 0 where
  pub pre : List (ℕ × EntryPlace)
  pub mid : List (ℕ × EntryPlace)
  pub post : List (ℕ × EntryPlace)
  pub parts : es ≡ pre ++ (mid ++ post)
  pub first : are_rewritten pre ≡ true
  pub rest : Each (λ e. is_rewritten e.1 ≡ false) post
  pub places : GetPlaces watermark mid new
  -- the same bytes stand at their places in the Rewrite queue
  pub bytes : entries_in blocks new ≡ entries_in blocks mid
  pub written : are_rewritten new ≡ true

-- the index of a compaction's mark: the first that is there, or one above all that the Rewrite queue
-- has where none is
abbrev pub IsMarkIndex : List (ℕ × EntryPlace) → List Entry → ℕ → Type 0
IsMarkIndex [] held index = Each (λ o. o.0 < index) held
IsMarkIndex (e ∷ es) held index = e.0 ≡ index

-- what was fetched of a group's entries stands together, behind those that stand in the Rewrite queue
-- and before none that stands there
pub record IsFetched (watermark : Option ℕ) (es fetched : List (ℕ × EntryPlace)) : Type 0 where
  pub pre : List (ℕ × EntryPlace)
  pub post : List (ℕ × EntryPlace)
  pub parts : es ≡ pre ++ (fetched ++ post)
  pub first : are_rewritten pre ≡ true
  pub rest : Each (λ e. is_rewritten e.1 ≡ false) post
  pub moves : Each (λ e. may_move_from watermark e.1 ≡ true) fetched
  -- of the Rewrite queue all is
  pub whole : watermark ≡ None → pre ≡ []

-- the key's value may be written to the Rewrite queue again
abbrev pub MayMoveKey : Option ℕ → Tables → ℕ → List ℕ → List ℕ → Type 0
MayMoveKey watermark t group key value =
    (id : FileId) × ((or_empty (t group)).keys key ≡ Some (value, id))
    × (may_move watermark id ≡ true)

-- a change of a group may be written again
abbrev pub MayWriteAgain : Option ℕ → Blocks → Tables → ℕ → PlacedContent → Type 0
MayWriteAgain watermark blocks t group (EntriesAt []) = ⊥
MayWriteAgain watermark blocks t group (EntriesAt (n ∷ ns)) =
    ArePart watermark blocks (or_empty (t group)).entries (n ∷ ns)
MayWriteAgain watermark blocks t group (Plain (Entries entries)) = ⊥
MayWriteAgain watermark blocks t group (Plain Clean) = ⊥
MayWriteAgain watermark blocks t group (Plain (Compact index)) = ⊥
MayWriteAgain watermark blocks t group (Plain (Put key value)) =
    MayMoveKey watermark t group key value
MayWriteAgain watermark blocks t group (Plain (Delete key)) = ⊥

-- items may be written again to a file, one after the other, and no clean of their groups is owed
abbrev pub MayAllBeWritten : Option ℕ → FileId → Blocks → Owed → Tables → List PlacedItem → Type 0
MayAllBeWritten watermark id blocks owed t [] = Unit {0}
MayAllBeWritten watermark id blocks owed t (item ∷ items) =
    ((owed item.group).cleaned ≡ false)
    × MayWriteAgain watermark blocks t item.group item.content
    × MayAllBeWritten watermark id blocks owed (tables_moved_by watermark id t item) items

-- the item that sets entries of a group, and the same by their places
abbrev pub entries_item : ℕ → List Entry → Item
entries_item group es = record { group = group; content = Entries es }

-- the item of a group that has these entries by their places
abbrev pub placed_entries_item : ℕ → List (ℕ × EntryPlace) → PlacedItem
placed_entries_item group es = record { group = group; content = EntriesAt es }
