-- What is left to move of a group after its gathered items are written.
use Rattle.std.specs.Prelude.{◌≡◌, ℕ, true, List, Option, None}
use Rattle.std.specs.List.{AllByRecursion as Each}
use Rattle.raft_tables.specs.MovedEntries.{may_move_from}
use Rattle.raft_tables.specs.Moving.{value_to_move}
use Rattle.raft_tables.specs.Table.{TableView}

-- the group has no entry and no value that a rewriting up to the watermark moves
pub record HasNoneToMove (watermark : Option ℕ) (t : TableView) : Type 0 where
  pub entries : Each (λ e. may_move_from watermark e.1 ≡ true → ⊥) t.entries
  pub keys : (key : List ℕ) → value_to_move watermark t key ≡ None
