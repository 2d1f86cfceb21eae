-- Batches that are valid one after the other.
use Rattle.std.specs.Prelude.{List, [], ◌∷◌}
use Rattle.raft_records.specs.Item.{Batch}
use Rattle.raft_records.specs.Contents.{Contents, after_batch}
use Rattle.raft_records.specs.Validity.{IsValidBatch}

-- each batch is valid after those before it
abbrev pub AreValidBatches : Contents → List Batch → Type 0
AreValidBatches m [] = Unit {0}
AreValidBatches m (b ∷ bs) = IsValidBatch m b × AreValidBatches (after_batch m b) bs
