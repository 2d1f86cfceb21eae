-- When the first batches of the Append queue may be dropped.
use Rattle.std.specs.Prelude.{◌≡◌, ℕ, ◌+◌, ◌<◌, ◌⊎◌, true, List, [], ◌∷◌, length, ⊤}
use Rattle.std.specs.List.{All, Contains}
use Rattle.raft_records.specs.Item.{Entry, Batch}
use Rattle.raft_records.specs.Contents.{Contents}
use Rattle.raft_recovery_laws.specs.Recovered.{leaves, leaves_key}

-- an index right before a list's first entry, or after its last one; any, where the list is empty
abbrev pub IsBeside : List Entry → ℕ → Type 0
IsBeside [] index = ⊤
IsBeside (first ∷ es) index = (index + 1 ≡ first.0) ⊎ (first.0 + length es < index)

-- x holds of the contents m what the rest of the queue leaves alone, and nothing else beside it
pub record HoldsDropped (x : Contents) (rest : List Batch) (m : Contents) : Type 0 where
  -- each entry of m that the rest leaves alone is in x
  pub entries : (group : ℕ) → All (λ e. leaves rest group e.0 ≡ true
      → Contains (x.entries group) e) (m.entries group)
  -- no entry of x that the rest leaves alone stands beside those of m
  pub others : (group : ℕ) → All (λ e. leaves rest group e.0 ≡ true
      → IsBeside (m.entries group) e.0 → ⊥) (x.entries group)
  -- at each key that the rest leaves alone x has what m has
  pub keys : (group : ℕ) (key : List ℕ) → leaves_key rest group key ≡ true
      → x.value group key ≡ m.value group key
