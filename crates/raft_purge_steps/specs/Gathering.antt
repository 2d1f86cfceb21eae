-- What a purge gathers of the Append queue's files up to a watermark, group by group.
use Rattle.std.specs.Prelude.{◌≡◌, ℕ, false, List, map}
use Rattle.raft_env.specs.Directory.{Directory}
use Rattle.raft_queues.specs.Dual.{DualState}
use Rattle.raft_records.specs.Item.{Batch, Item, Put}
use Rattle.raft_tables.specs.Owed.{Owed}
use Rattle.raft_tables.specs.Tables.{Tables}
use Rattle.raft_crash_laws.specs.Log.{KnownGroups}
use Rattle.raft_purge_steps.specs.Steps.{IsLog, LogValue, Recovers, log_of}

-- no group owes a clean mark
abbrev pub OwesNoClean : Owed → Type 0
OwesNoClean owed = (group : ℕ) → (owed group).cleaned ≡ false

-- the log with these parts holds this value, and owes no clean mark
pub record IsCleanLog (d : DualState) (t : Tables) (n : Directory) (owed : Owed) (met : KnownGroups)
    (v : LogValue) : Type 0 where
  pub clean : OwesNoClean owed
  pub log : IsLog (log_of d t owed met n) v

-- a put of this key and value, as an item of the group
abbrev pub put_item : ℕ → List ℕ × List ℕ → Item
put_item group p = record { group = group; content = Put p.0 p.1 }

-- puts of these keys and values, as items of the group
abbrev pub put_items : ℕ → List (List ℕ × List ℕ) → Batch
put_items group pairs = map (put_item group) pairs

-- Q holds of all marks, groups and log values of which P holds
abbrev pub CarriesOver : (Owed → KnownGroups → LogValue → Type 0)
    → (Owed → KnownGroups → LogValue → Type 0) → Type 0
CarriesOver P Q = (owed : Owed) (met : KnownGroups) (v : LogValue) → P owed met v → Q owed met v

-- at this moment a crash finds each log value of which P holds
abbrev pub RecoversAll : (Owed → KnownGroups → LogValue → Type 0) → Directory → Directory → Type 0
RecoversAll P old n =
    (owed : Owed) (met : KnownGroups) (v : LogValue) → P owed met v → Recovers v old n
