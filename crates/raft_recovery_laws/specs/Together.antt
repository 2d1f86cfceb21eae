-- Atomic groups whose batches stand together.
use Rattle.std.specs.Prelude.{◌≡◌, ℕ, IsTrue, false, List, ◌++◌}
use Rattle.std.specs.List.{list_all}
use Rattle.raft_records.specs.Item.{Batch}
use Rattle.raft_recovery_laws.specs.Dropping.{ShareNoGroup}
use Rattle.raft_recovery_laws.specs.Groups.{is_complete, is_of_group, places_in}

-- after these first batches stand the last ones of one group, which isn't complete without its first
-- batch, and then batches of no group that began before
pub record IsCut (front back : List Batch) : Type 0 where
  pub id : ℕ
  pub tail : List Batch
  pub rest : List Batch
  pub is : back ≡ tail ++ rest
  pub of_group : IsTrue (list_all (is_of_group id) tail)
  pub incomplete : is_complete (places_in id tail) ≡ false
  pub apart : ShareNoGroup (front ++ tail) rest

-- IsCut, wherever the list is cut
abbrev pub StandTogether : List Batch → Type 0
StandTogether batches = (front back : List Batch) → batches ≡ front ++ back → IsCut front back
