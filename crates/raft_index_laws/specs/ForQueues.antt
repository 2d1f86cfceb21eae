-- What holds of the tables and the marks that are owed, in terms of both queues.
use Rattle.std.specs.Prelude.{◌≡◌, ◌^◌, ◌-◌, List, ◌++◌}
use Rattle.raft_records.specs.FileBatches.{FileBatch, batches_of}
use Rattle.raft_records.specs.Places.{Blocks}
use Rattle.raft_recovery_laws.specs.Bounds.{AreItemsBelow}
use Rattle.raft_recovery_laws.specs.Consecutive.{HaveConsecutiveEntries}
use Rattle.raft_recovery_laws.specs.Recovered.{effect, items_of}
use Rattle.raft_recovery_laws.specs.Stands.{Queues}
use Rattle.raft_tables.specs.Owed.{Owed}
use Rattle.raft_tables.specs.Tables.{Tables}
use Rattle.raft_index_laws.specs.Standing.{TablesStandFor}

-- the tables and the marks stand for the queues, of which the Append queue's batches have these
-- numbers of files
pub record StandForQueues (blocks : Blocks) (numbered : List FileBatch) (owed : Owed) (t : Tables)
    (q : Queues) : Type 0 where
  pub batches : batches_of numbered ≡ q.appended ++ q.appended_since
  pub appended_consecutive : HaveConsecutiveEntries (batches_of numbered)
  pub rewritten_consecutive : HaveConsecutiveEntries (q.rewritten ++ q.rewritten_since)
  -- no entry of the Rewrite queue has the greatest index, so a compaction to that empties a group
  pub rewritten_below : AreItemsBelow (2 ^ 64 - 1) (items_of (q.rewritten ++ q.rewritten_since))
  pub stand : TablesStandFor blocks (effect (q.rewritten ++ q.rewritten_since)) numbered owed t
