-- Batches of one item of group 1, and what is recovered of that group.
use Rattle.std.specs.Prelude.{ℕ, List, [], ◌∷◌, map, Option, Some, None}
use Rattle.raft_records.specs.Item.{Content, Entries, Clean, Compact, Put, Delete, Item, Batch}
use Rattle.raft_records.specs.Contents.{no_contents, after_batches}
use Rattle.raft_records.specs.Record.{Begin, End, mark_item}
use Rattle.raft_recovery_laws.specs.Recovered.{recovered}

-- an item of group 1
abbrev pub item : Content → Item
item content = record { group = 1; content = content }

-- entries with these indexes, each with a byte
abbrev pub entries_with : ℕ → List ℕ → Content
entries_with byte indexes = Entries (map (λ i. (i, byte ∷ [])) indexes)

-- a batch of entries with these indexes
abbrev pub entries : List ℕ → Batch
entries indexes = item (entries_with 0 indexes) ∷ []

-- the key of the rows
abbrev pub key : List ℕ
key = 97 ∷ []

-- a batch that puts this byte at the key
abbrev pub put : ℕ → Batch
put value = item (Put key (value ∷ [])) ∷ []

-- a batch that deletes the key
abbrev pub delete : Batch
delete = item (Delete key) ∷ []

-- a batch that cleans the group
abbrev pub clean : Batch
clean = item Clean ∷ []

-- a batch that compacts the group to this index
abbrev pub compact : ℕ → Batch
compact index = item (Compact index) ∷ []

-- a batch as the first one of the atomic group with this id
abbrev pub begin_group : ℕ → Batch → Batch
begin_group id batch = mark_item id Begin ∷ batch

-- a batch as the last one of the atomic group with this id
abbrev pub end_group : ℕ → Batch → Batch
end_group id batch = mark_item id End ∷ batch

-- the indexes of the group's entries, and the byte of the key's value
pub record Found : Type 0 where
  pub indexes : List ℕ
  pub value : Option (List ℕ)

-- what is recovered of the group from batches of the Rewrite queue and the Append queue
abbrev pub found : List Batch → List Batch → Found
found rewritten appended = record {
  indexes = map (λ e. e.0) ((recovered rewritten appended).entries 1);
  value = (recovered rewritten appended).value 1 key;
}

-- the entries with these indexes, and no value
abbrev pub only : List ℕ → Found
only indexes = record { indexes = indexes; value = None }

-- no entries, and this value
abbrev pub value : ℕ → Found
value byte = record { indexes = []; value = Some (byte ∷ []) }

-- no entries and no value
abbrev pub nothing : Found
nothing = only []

-- entries with these indexes, and this value
abbrev pub both : List ℕ → ℕ → Found
both indexes byte = record { indexes = indexes; value = Some (byte ∷ []) }

-- what batches leave one after the other
abbrev pub after : List Batch → Found
after batches = record {
  indexes = map (λ e. e.0) ((after_batches no_contents batches).entries 1);
  value = (after_batches no_contents batches).value 1 key;
}
