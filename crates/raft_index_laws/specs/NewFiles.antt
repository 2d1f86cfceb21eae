-- What holds while a purge writes all that stands in the Rewrite queue to new files of it.
use Rattle.std.specs.Prelude.{◌≡◌, ℕ, List, ◌++◌}
use Rattle.raft_records.specs.Item.{Batch}
use Rattle.raft_records.specs.Places.{Blocks}
use Rattle.raft_recovery_laws.specs.Ids.{HasIdsBelow, HasIdsFrom}
use Rattle.raft_recovery_laws.specs.Recovered.{effect}
use Rattle.raft_recovery_laws.specs.Stands.{Queues}
use Rattle.raft_recovery_laws.specs.Together.{StandTogether}
use Rattle.raft_tables.specs.Tables.{Tables}
use Rattle.raft_index_laws.specs.DroppingOld.{HoldsFrom}

-- the Rewrite queue has these old batches, and then the new ones: in the files from this one on, of
-- atomic groups with ids from the bound on. What the tables place there they hold
pub record HasNewFiles (blocks : Blocks) (first bound : ℕ) (old new : List Batch) (t : Tables)
    (q : Queues) : Type 0 where
  pub batches : q.rewritten ++ q.rewritten_since ≡ old ++ new
  pub together : StandTogether old
  pub old_ids : HasIdsBelow bound old
  pub new_ids : HasIdsFrom bound new
  pub holds : HoldsFrom blocks first (effect new) t
