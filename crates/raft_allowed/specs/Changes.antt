-- What changes mean for contents.
use Rattle.std.specs.Prelude.{ℕ, ◌+◌, ◌-◌, ◌^◌, ◌==◌, ◌&&◌, not, Bool, true, List, [], ◌∷◌, map, Vec}
use Rattle.std.specs.declared.alloc.Global.{Global}
use Rattle.raft_codec.specs.Number.{u64_bytes}
use Rattle.raft_once.specs.Numbers.{number_key}
use Rattle.raft_records.specs.Item.{Batch, Content, Entry, Item}
use Rattle.raft_records.specs.Item as item
use Rattle.raft_script.specs.Batches.{indexed_bytes}
use Rattle.raft_allowed.specs.declared.changes.Change.{Change}
use Rattle.raft_allowed.specs.declared.changes.What.{What}
use Rattle.raft_allowed.specs.declared.changes.What.TheVariants as what

-- the content of an item that makes this change
abbrev pub content_of : What → Content
content_of (what.Entries entries) = item.Entries (map indexed_bytes entries.now)
content_of what.Clean = item.Clean
content_of (what.Compact index) = item.Compact index
content_of (what.Put key value) = item.Put key.now value.now
content_of (what.Delete key) = item.Delete key.now
content_of (what.Number number) = item.Put number_key (u64_bytes number)

-- the item that makes this change in its group
abbrev pub item_of : Change → Item
item_of change = record { group = change.group; content = content_of change.what }

-- the items of changes
abbrev pub batch_in : List Change → Batch
batch_in changes = map item_of changes

-- the batches of lists of changes
abbrev pub batches_in : List (Vec Change Global) → List Batch
batches_in batches = map (λ batch. batch_in batch.items) batches

-- the indexes follow one another from this one on, and none is the greatest number
abbrev pub are_counted_from : ℕ → List Entry → Bool
are_counted_from index [] = true
are_counted_from index (e ∷ es) =
    (not (e.0 == 2 ^ 64 - 1) && e.0 == index) && are_counted_from (index + 1) es
