-- What tables hold, where blocks hold the bytes of their entries.
use Rattle.std.proofs.Common.{Bool, List, None, Some, [], ℕ, ◌∙◌, ◌∷◌, ◌≡◌, ap, map, refl, subst, sym, true}
use Rattle.std.specs.List.{list_all}
use Rattle.raft_base.specs.declared.pipe_log.FileId.{FileId}
use Rattle.raft_env.specs.Directory.{Directory}
use Rattle.raft_queues.specs.Dual.{DualState, both_blocks_now}
use Rattle.raft_records.specs.Contents.{Contents, after_batch}
use Rattle.raft_records.specs.Item.{Batch}
use Rattle.raft_records.specs.ItemBatch.{are_readable, is_readable_at}
use Rattle.raft_records.specs.PlacedItem.{PlacedItem, is_placed_in_order, item_in}
use Rattle.raft_records.specs.Places.{Blocks}
use Rattle.raft_tables.specs.Known.{known_after}
use Rattle.raft_tables.specs.Tables.{Applies, Tables, tables_after, tables_of}
use Rattle.raft_tables.specs.declared.memtables.MemTables.{MemTables}
use Rattle.raft_crash_laws.specs.Contents.{StandFor, known_from}
use Rattle.raft_crash_laws.specs.Queues.{AreByQueue, HasBothBlocks}
use Rattle.raft_base.specs.declared.pipe_log.FileBlockHandle.{FileBlockHandle}
use Rattle.raft_pipes.specs.PipeState.{PipeState, WritesSameFile, last_file, last_seq}
use Rattle.raft_tables.specs.Counting.{stats_after}
use Rattle.raft_tables.specs.declared.stats.GlobalStats.{GlobalStats}
use Rattle.raft_log_engine.specs.Engine.{Memory}
use Rattle.raft_log_engine.specs.Write.{TakesItems, places_at}
use Rattle.raft_log_engine.proofs.RoomLemmas.{same_numbers}
use Rattle.raft_queues.proofs.DualLemmas.{both_have_blocks}

-- tables that took a batch hold it too
pub stand_more : (blocks : Blocks) (id : FileId) (items : List PlacedItem) (old new : MemTables) (m : Contents) (is_known : ℕ → Bool) (batch : Batch) → list_all (λ i. is_placed_in_order i.content) items ≡ true → are_readable blocks items ≡ true
    → map (item_in blocks) items ≡ batch → Applies id items old new → StandFor blocks (tables_of old) m is_known → StandFor blocks (tables_of new) (after_batch m batch) (known_from is_known (batch ∷ []))
stand_more blocks id items old new m is_known batch in_order readable is applies stands = record {
  contents = applies.contents in_order blocks
      ∙ ap (λ (x : Contents). after_batch x (map (item_in blocks) items)) stands.contents
      ∙ ap (after_batch m) is;
  known = λ group. applies.known in_order blocks group
      ∙ ap (λ known. known_after group known (map (item_in blocks) items)) (stands.known group)
      ∙ ap (known_after group (is_known group)) is;
  readable = applies.places (is_readable_at blocks) readable stands.readable;
}

-- what stands in the blocks of both pipes now, and of a batch that isn't written yet these bytes
abbrev pub blocks_over : DualState → Directory → List ℕ → Blocks
blocks_over d n given None = given
blocks_over d n given (Some block) = both_blocks_now d n (Some block)

pub has_blocks_over : (d : DualState) (n : Directory) (given : List ℕ) → AreByQueue d → HasBothBlocks d n (blocks_over d n given)
has_blocks_over d n given named = λ queue. both_have_blocks d queue (named queue) n

-- memory took the items of a record that stands at this handle
pub takes_items : (items : Batch) (handle given : FileBlockHandle) (placed : List PlacedItem) (p p' : PipeState) (m : Memory) (t : Tables) (stats : GlobalStats) → (items ≡ [] → ⊥) → given ≡ handle → handle.id ≡ last_file p → WritesSameFile p p' → placed ≡ places_at handle items
    → t ≡ tables_after given.id m.tables placed → stats ≡ stats_after given.id m.tables placed m.stats → TakesItems items (last_file p') m (record { tables = t; stats = stats; groups = m.groups; rounds = m.rounds; renewal = m.renewal })
takes_items [] handle given placed p p' m t stats some is in_file same are tables counts = absurd (some refl)
takes_items (item ∷ items) handle given placed p p' m t stats some is in_file same are tables counts = (
  handle,
  in_file ∙ (λ i. record { queue = sym same.queue i; seq = same_seq i }),
  λ i. record {
    tables = (tables ∙ ap (λ (h : FileBlockHandle). tables_after h.id m.tables placed) is ∙ ap (tables_after handle.id m.tables) are) i;
    stats = (counts ∙ ap (λ (h : FileBlockHandle). stats_after h.id m.tables placed m.stats) is ∙ ap (λ (xs : List PlacedItem). stats_after handle.id m.tables xs m.stats) are) i;
    groups = m.groups;
    rounds = m.rounds;
    renewal = m.renewal;
  },
)
  where
    same_seq : last_seq p ≡ last_seq p'
    same_seq = sym (same_numbers p p' same)

-- .. and without items it is as before
pub takes_nothing : (items : Batch) (id : FileId) (m m' : Memory) → items ≡ [] → m' ≡ m → TakesItems items id m m'
takes_nothing items id m m' none same = subst (λ (b : Batch). TakesItems b id m m') (sym none) same
