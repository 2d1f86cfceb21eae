-- The batches of an atomic group in which a purge writes all of a group of entries again.
use Rattle.std.specs.Prelude.{ℕ, List, [], ◌∷◌, ◌++◌, map}
use Rattle.std.specs.List.{flat_map}
use Rattle.raft_records.specs.declared.entry_index.EntryPlace.{EntryPlace}
use Rattle.raft_records.specs.Item.{Batch}
use Rattle.raft_records.specs.PlacedItem.{PlacedItem, item_in}
use Rattle.raft_records.specs.Places.{Blocks, entries_in}
use Rattle.raft_records.specs.Record.{Mark, mark_item}
use Rattle.raft_records.specs.Record.Mark.{Begin, Middle, End}
use Rattle.raft_index_laws.specs.Rewriting.{entries_item, placed_entries_item}

-- the mark of the next batch of a group that isn't ended, behind these
abbrev pub next_mark : {X : Type 0} → List X → Mark
next_mark [] = Begin
next_mark (b ∷ bodies) = Middle

-- the batch with a mark of the group before its items
abbrev pub marked : ℕ → Mark → Batch → Batch
marked id mark body = mark_item id mark ∷ body

-- the batches of a group that isn't ended
abbrev pub open_group : ℕ → List Batch → List Batch
open_group id [] = []
open_group id (body ∷ bodies) = marked id Begin body ∷ map (marked id Middle) bodies

-- those of one that is
abbrev pub ended_group : ℕ → List Batch → Batch → List Batch
ended_group id bodies last = open_group id bodies ++ marked id End last ∷ []

-- batches of which each sets a part of a group's entries
abbrev pub bodies_in : Blocks → ℕ → List (List (ℕ × EntryPlace)) → List Batch
bodies_in blocks group parts = map (λ part. entries_item group (entries_in blocks part) ∷ []) parts

-- the last one, which sets the last part and then values
abbrev pub last_body : Blocks → ℕ → List (ℕ × EntryPlace) → List PlacedItem → Batch
last_body blocks group part values =
    entries_item group (entries_in blocks part) ∷ map (item_in blocks) values

-- all that the group's batches set: the parts as one, and the values
abbrev pub set_by_parts : ℕ → List (List (ℕ × EntryPlace)) → List (ℕ × EntryPlace) → List PlacedItem
    → List PlacedItem
set_by_parts group parts part values =
    placed_entries_item group (flat_map (λ p. p) parts ++ part) ∷ values
