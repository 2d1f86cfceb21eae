-- Which items may be appended to the Rewrite queue, so that nothing of what is recovered changes.
use Rattle.std.specs.Prelude.{◌≡◌, ℕ, ◌<◌, ◌⊎◌, true, List, [], ◌∷◌, None}
use Rattle.std.specs.List.{All, Contains}
use Rattle.raft_records.specs.Item.{Entry, Item, Batch}
use Rattle.raft_records.specs.Contents.{Contents, is_next_to, after_item}
use Rattle.raft_recovery_laws.specs.Recovered.{leaves, leaves_key, replay}

-- an item at the end of the Rewrite queue changes nothing of what is recovered
abbrev pub ChangesNothing : Contents → List Batch → Item → Type 0
ChangesNothing x appended item = replay (after_item x item) appended ≡ replay x appended

-- so does each of these, after those before it
abbrev pub EachChangesNothing : Contents → List Batch → List Item → Type 0
EachChangesNothing x appended [] = Unit {0}
EachChangesNothing x appended (item ∷ items) =
    ChangesNothing x appended item × EachChangesNothing (after_item x item) appended items

-- a fact about each entry of a group that is recovered and that the Append queue leaves alone
abbrev pub EachLeft : Contents → List Batch → ℕ → (Entry → Type 0) → Type 0
EachLeft x appended group P =
    All (λ e. leaves appended group e.0 ≡ true → P e) ((replay x appended).entries group)

-- the group has no entries that were recovered and that the Append queue leaves alone, nor keys
pub record IsSetByAppend (x : Contents) (appended : List Batch) (group : ℕ) : Type 0 where
  pub entries : EachLeft x appended group (λ e. ⊥)
  pub keys : (key : List ℕ) → leaves_key appended group key ≡ true
      → (replay x appended).value group key ≡ None

-- entries that may be written to the Rewrite queue: those that Append leaves alone are recovered,
-- and of what it leaves alone each entry is below them or among them; where one is below, they
-- start in the Rewrite queue's entries or right after them
pub record FitsRewrite (x : Contents) (appended : List Batch) (group : ℕ)
    (e : Entry) (es : List Entry) : Type 0 where
  pub held : All (λ n. leaves appended group n.0 ≡ true
      → Contains ((replay x appended).entries group) n) (e ∷ es)
  pub covers : EachLeft x appended group (λ o. (o.0 < e.0) ⊎ Contains (e ∷ es) o)
  pub touches : EachLeft x appended group (λ o. o.0 < e.0 → is_next_to (x.entries group) e.0 ≡ true)
