-- When the first batches of the Rewrite queue may be dropped.
use Rattle.std.specs.Prelude.{◌≡◌, ℕ, ◌⊎◌, true, List, [], ◌++◌, Some, None}
use Rattle.std.specs.List.{All, Contains}
use Rattle.raft_records.specs.Item.{Batch, Entry}
use Rattle.raft_records.specs.Contents.{Contents}
use Rattle.raft_recovery_laws.specs.Groups.{places_in}
use Rattle.raft_recovery_laws.specs.Recovered.{leaves, leaves_key}

-- no atomic group has batches in both lists
abbrev pub ShareNoGroup : List Batch → List Batch → Type 0
ShareNoGroup old new = (id : ℕ) → (places_in id old ≡ []) ⊎ (places_in id new ≡ [])

-- of the contents m, each entry and each key that the Append queue leaves alone is in x
pub record HoldsLeft (x : Contents) (appended : List Batch) (m : Contents) : Type 0 where
  pub entries : (group : ℕ) → All (λ e. leaves appended group e.0 ≡ true
      → Contains (x.entries group) e) (m.entries group)
  pub keys : (group : ℕ) (key value : List ℕ) → leaves_key appended group key ≡ true
      → m.value group key ≡ Some value → x.value group key ≡ Some value

-- the contents are a later part of others, as those of a queue's later batches alone are
pub record IsLaterPart (later whole : Contents) : Type 0 where
  pub entries :
      (group : ℕ) → (front : List Entry) × (whole.entries group ≡ front ++ later.entries group)
  pub value :
      (group : ℕ) (key : List ℕ) → (later.value group key ≡ None)
      ⊎ (later.value group key ≡ whole.value group key)
