-- Which groups are known.
use Rattle.std.specs.Prelude.{ℕ, ◌==◌, Bool, true, false, List, [], ◌∷◌, fold, if◌then◌else◌}
use Rattle.std.specs.Str.{bytes_eq}
use Rattle.raft_records.specs.Item.{Content, Entries, Clean, Compact, Put, Delete, Item, Batch, group_mark_key}

-- whether a group is known after a change of it: something was put into it since it was last cleaned
abbrev pub known_after_content : Bool → Content → Bool
known_after_content known (Entries []) = known
known_after_content known (Entries (e ∷ es)) = true
known_after_content known Clean = false
known_after_content known (Compact index) = known
known_after_content known (Put key value) = if bytes_eq key group_mark_key then known else true
known_after_content known (Delete key) = known

-- whether a group is known after an item
abbrev pub known_after_item : ℕ → Bool → Item → Bool
known_after_item group known item =
    if group == item.group then known_after_content known item.content else known

-- whether a group is known after the items of a batch
abbrev pub known_after : ℕ → Bool → Batch → Bool
known_after group known batch = fold (known_after_item group) known batch

-- whether a group is known after these batches, where none was known before them
abbrev pub known_in : List Batch → ℕ → Bool
known_in batches group = fold (known_after group) false batches
