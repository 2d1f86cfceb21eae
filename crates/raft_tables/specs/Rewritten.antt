-- The batches of the Rewrite queue that an opening replayed, and the tables of those that count.
use Rattle.std.specs.Prelude.{◌≡◌, ℕ, Bool, true, false, List, [], ◌∷◌, map, filter, fold, Option, Some, None, is_some, option_map, if◌then◌else◌}
use Rattle.std.specs.List.{list_all}
use Rattle.std.specs.Str.{bytes_eq}
use Rattle.raft_base.specs.declared.pipe_log.FileId.{FileId}
use Rattle.raft_records.specs.declared.entry_index.EntryPlace.{EntryPlace}
use Rattle.raft_records.specs.Item.{Batch}
use Rattle.raft_records.specs.LogItem.{placed_item_of}
use Rattle.raft_records.specs.PlacedItem.{PlacedItem, are_all_placed, item_in, is_placed_in_order}
use Rattle.raft_records.specs.Places.{Blocks}
use Rattle.raft_recovery_laws.specs.Groups.{GroupMark, batch_counts, first_place, last_place, mark_of, place_by, whole}
use Rattle.raft_recovery_laws.specs.Recovered.{effect}
use Rattle.raft_tables.specs.Counting.{stats_after}
use Rattle.raft_tables.specs.Known.{known_in}
use Rattle.raft_tables.specs.Tables.{AreAllPlaced, Tables, contents_in, tables_after, tables_of}
use Rattle.raft_tables.specs.declared.memtables.MemTables.{MemTables}
use Rattle.raft_tables.specs.declared.rewritten.GroupState.{GroupState}
use Rattle.raft_tables.specs.declared.rewritten.GroupState.TheVariants.{Begun, Complete}
use Rattle.raft_tables.specs.declared.rewritten.MarkedPlace.{MarkedPlace}
use Rattle.raft_tables.specs.declared.rewritten.RewrittenBatch.{RewrittenBatch}
use Rattle.raft_tables.specs.declared.rewritten.RewrittenBatches.{RewrittenBatches}
use Rattle.raft_tables.specs.declared.stats.GlobalStats.{GlobalStats}

-- the file that a batch stands in, and its items, their entries by their places
abbrev pub PlacedBatch : Type 0
PlacedBatch = FileId × List PlacedItem

-- the batch, its entries by their places
abbrev pub placed_batch_of : RewrittenBatch → PlacedBatch
placed_batch_of b = (b.id, map placed_item_of b.items.items)

-- the batches in order, the newest one last
abbrev pub placed_batches : RewrittenBatches → List PlacedBatch
placed_batches r = map placed_batch_of r.batches.items

-- the batch, its entries with the bytes at their places
abbrev pub batch_in : Blocks → PlacedBatch → Batch
batch_in blocks b = map (item_in blocks) b.1

-- the batches, their entries with the bytes at their places
abbrev pub batches_in : Blocks → List PlacedBatch → List Batch
batches_in blocks batches = map (batch_in blocks) batches

-- blocks without bytes
abbrev pub no_bytes : Blocks
no_bytes = λ _. []

-- the mark that a batch begins with; whatever the blocks hold it is the same
abbrev pub placed_mark : PlacedBatch → Option GroupMark
placed_mark b = mark_of (batch_in no_bytes b)

-- among these batches, this one counts
abbrev pub placed_counts : List PlacedBatch → PlacedBatch → Bool
placed_counts batches b = batch_counts (batches_in no_bytes batches) (batch_in no_bytes b)

-- the batches that count, in order
abbrev pub placed_whole : List PlacedBatch → List PlacedBatch
placed_whole batches = filter (placed_counts batches) batches

-- the tables after batches, in order
abbrev pub tables_after_batches : Tables → List PlacedBatch → Tables
tables_after_batches t batches = fold (λ u b. tables_after b.0 u b.1) t batches

-- the counters after batches, in order
abbrev pub stats_after_batches : Tables → List PlacedBatch → GlobalStats → GlobalStats
stats_after_batches t [] stats = stats
stats_after_batches t (b ∷ batches) stats =
    stats_after_batches (tables_after b.0 t b.1) batches (stats_after b.0 t b.1 stats)

-- the entries of each item are in order
abbrev pub are_placed_in_order : List PlacedBatch → Bool
are_placed_in_order batches =
    list_all (λ b. list_all (λ item. is_placed_in_order item.content) b.1) batches

-- each entry of each item stands at such a place
abbrev pub are_batches_placed : (EntryPlace → Bool) → List PlacedBatch → Bool
are_batches_placed holds batches =
    list_all (λ b. list_all (λ item. are_all_placed holds item.content) b.1) batches

-- the tables of no group
abbrev pub no_tables : Tables
no_tables = λ _. None

-- the tables are those of the batches that count
pub record AreWhole (batches : List PlacedBatch) (m : MemTables) : Type 0 where
  pub tables : tables_of m ≡ tables_after_batches no_tables (placed_whole batches)
  -- the same batches count whatever the blocks hold
  pub counting :
      (blocks : Blocks) → batches_in blocks (placed_whole batches)
      ≡ whole (batches_in blocks batches)
  -- whatever bytes stand in the blocks
  pub contents :
      are_placed_in_order batches ≡ true → (blocks : Blocks)
      → contents_in blocks (tables_of m) ≡ effect (batches_in blocks batches)
  pub known :
      are_placed_in_order batches ≡ true → (blocks : Blocks) (group : ℕ)
      → is_some (tables_of m group) ≡ known_in (whole (batches_in blocks batches)) group
  -- what is true of the places of all items is true of those that stand
  pub places :
      (holds : EntryPlace → Bool) → are_batches_placed holds batches ≡ true
      → AreAllPlaced holds (tables_of m)

-- How a program tells which batches count.

-- the mark without the slice that lends its place
abbrev pub mark_from : Option MarkedPlace → Option GroupMark
mark_from mark = option_map (λ m. record { id = m.id; place = m.place.now }) mark

-- what was seen of a group, after the place bytes of one more of its batches
abbrev pub state_after : Option GroupState → List ℕ → Option GroupState
state_after None place = if bytes_eq place first_place then Some Begun else None
state_after (Some Begun) place = if bytes_eq place last_place then Some Complete else Some Begun
state_after (Some Complete) place = Some Complete

-- what was seen of a group after a batch, by its place bytes; a batch of another group has none
abbrev pub state_after_place : Option GroupState → Option (List ℕ) → Option GroupState
state_after_place state None = state
state_after_place state (Some place) = state_after state place

-- what was seen of a group after batches
abbrev pub state_in : ℕ → Option GroupState → List PlacedBatch → Option GroupState
state_in id state batches =
    fold (λ s b. state_after_place s (place_by id (placed_mark b))) state batches

-- the first batch of the group was seen, and the last one after it
abbrev pub is_seen_whole : Option GroupState → Bool
is_seen_whole None = false
is_seen_whole (Some Begun) = false
is_seen_whole (Some Complete) = true

-- a batch with this mark counts, where this was seen of each group
abbrev pub counts_by : (ℕ → Option GroupState) → Option GroupMark → Bool
counts_by states None = true
counts_by states (Some mark) = is_seen_whole (states mark.id)
