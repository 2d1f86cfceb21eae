-- What is written to the Rewrite queue again.
use Rattle.std.specs.Prelude.{◌≡◌, ℕ, List, Option, map}
use Rattle.raft_env.specs.Directory.{Directory}
use Rattle.raft_queues.specs.Dual.{DualState}
use Rattle.raft_records.specs.Item.{Batch}
use Rattle.raft_records.specs.PlacedItem.{PlacedItem, item_in}
use Rattle.raft_records.specs.Places.{Blocks}
use Rattle.raft_index_laws.specs.Gathering.{IsGathered}
use Rattle.raft_tables.specs.Owed.{Owed}
use Rattle.raft_tables.specs.Tables.{Tables}
use Rattle.raft_crash_laws.specs.Queues.{HasBothBlocks}

-- the batch was gathered from the tables, up to a watermark or (`None`) of the Rewrite queue
pub record WasGathered (watermark : Option ℕ) (d : DualState) (n : Directory) (owed : Owed)
    (t : Tables) (batch : Batch) : Type 0 where
  pub items : List PlacedItem
  pub gathered : IsGathered watermark owed t items
  -- its entries have the bytes that the files hold
  pub same : (blocks : Blocks) → HasBothBlocks d n blocks → batch ≡ map (item_in blocks) items
