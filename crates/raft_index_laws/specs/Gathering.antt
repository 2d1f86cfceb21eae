-- What a purge gathers from the tables, to write it to the Rewrite queue again.
use Rattle.std.specs.Prelude.{◌≡◌, ℕ, false, List, [], ◌∷◌, map, Option, Some, None}
use Rattle.std.specs.List.{AllByRecursion as Each}
use Rattle.raft_records.specs.Item.{Entries, Clean, Compact, Put, Delete}
use Rattle.raft_records.specs.PlacedItem.{PlacedContent, EntriesAt, Plain, PlacedItem}
use Rattle.raft_tables.specs.Owed.{Owed}
use Rattle.raft_tables.specs.Tables.{Tables, or_empty}
use Rattle.raft_index_laws.specs.Rewriting.{IsFetched, MayMoveKey}

-- what of its group a change sets: a key, or none for its entries
abbrev pub key_set_by : PlacedContent → Option (List ℕ)
key_set_by (EntriesAt entries) = None
key_set_by (Plain (Entries entries)) = None
key_set_by (Plain Clean) = None
key_set_by (Plain (Compact index)) = None
key_set_by (Plain (Put key value)) = Some key
key_set_by (Plain (Delete key)) = Some key

-- two items set different things
abbrev pub SetApart : PlacedItem → PlacedItem → Type 0
SetApart item other = item.group ≡ other.group → key_set_by item.content ≡ key_set_by other.content → ⊥

-- any two of them do
abbrev pub AreSetApart : List PlacedItem → Type 0
AreSetApart [] = Unit {0}
AreSetApart (item ∷ items) = Each (SetApart item) items × AreSetApart items

-- a change of a group is what was fetched of its entries, or the value of a key
abbrev pub IsFetchedContent : Option ℕ → Tables → ℕ → PlacedContent → Type 0
IsFetchedContent watermark t group (EntriesAt []) = ⊥
IsFetchedContent watermark t group (EntriesAt (e ∷ es)) =
    IsFetched watermark (or_empty (t group)).entries (e ∷ es)
IsFetchedContent watermark t group (Plain (Entries entries)) = ⊥
IsFetchedContent watermark t group (Plain Clean) = ⊥
IsFetchedContent watermark t group (Plain (Compact index)) = ⊥
IsFetchedContent watermark t group (Plain (Put key value)) = MayMoveKey watermark t group key value
IsFetchedContent watermark t group (Plain (Delete key)) = ⊥

-- the items, each entry by its place, were gathered from the tables: no clean of their groups is
-- owed, and each sets something else
pub record IsGathered (watermark : Option ℕ) (owed : Owed) (t : Tables) (items : List PlacedItem)
    : Type 0 where
  pub each : Each (λ item. ((owed item.group).cleaned ≡ false)
      × IsFetchedContent watermark t item.group item.content) items
  pub apart : AreSetApart items

-- the values of a group as items
abbrev pub value_items : ℕ → List (List ℕ × List ℕ) → List PlacedItem
value_items group pairs =
    map (λ p. record { group = group; content = Plain (Put p.0 p.1) }) pairs
