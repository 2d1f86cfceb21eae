-- Ids of atomic groups in the Rewrite queue.
use Rattle.std.specs.Prelude.{◌≡◌, ℕ, ◌≤◌, ◌<◌, List, [], ◌++◌}
use Rattle.raft_records.specs.Item.{Batch}
use Rattle.raft_recovery_laws.specs.Groups.{places_in}

-- no group of these batches has this id or one above it
abbrev pub HasIdsBelow : ℕ → List Batch → Type 0
HasIdsBelow bound batches = (id : ℕ) → bound ≤ id → places_in id batches ≡ []

-- none has an id below this one
abbrev pub HasIdsFrom : ℕ → List Batch → Type 0
HasIdsFrom bound batches = (id : ℕ) → id < bound → places_in id batches ≡ []

-- the last batches are these, and none before them is of the group with this id
pub record EndsInGroup (id : ℕ) (group batches : List Batch) : Type 0 where
  pub old : List Batch
  pub is : batches ≡ old ++ group
  pub apart : places_in id old ≡ []
