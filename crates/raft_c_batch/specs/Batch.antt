-- Batches as bytes. Each number takes eight bytes, the greatest first.
use Rattle.std.specs.Prelude.{◌≡◌, ◌<◌, ◌^◌, ℕ, zero, suc, ◌==◌, List, [], ◌∷◌, ◌++◌, length, Option, Some, None, option_map, option_and_then, if◌then◌else◌}
use Rattle.std.specs.List.{AllByRecursion}
use Rattle.raft_codec.specs.Number.{u64_bytes, take_u64}
use Rattle.raft_records.specs.Item.{Entry, Content, Entries, Clean, Compact, Put, Delete, Item, Batch}
use Rattle.raft_records.specs.Record.{take_byte, take_bytes}
use Rattle.raft_c_batch.specs.declared.entry.Entry.{Entry as StoredEntry}

-- How a batch is written.

-- a part, after its length
abbrev pub part_bytes : List ℕ → List ℕ
part_bytes part = u64_bytes (length part) ++ part

-- the bytes of each entry, which begin with its index, after their length
abbrev pub entries_bytes : List Entry → List ℕ
entries_bytes [] = []
entries_bytes (e ∷ es) = part_bytes e.1 ++ entries_bytes es

-- the bytes of an item after its kind and its group
abbrev pub content_bytes : Content → List ℕ
content_bytes (Put key value) = part_bytes key ++ part_bytes value
content_bytes (Delete key) = part_bytes key
content_bytes (Entries entries) = u64_bytes (length entries) ++ entries_bytes entries
content_bytes Clean = []
content_bytes (Compact index) = u64_bytes index

-- the byte that says what an item does
abbrev pub kind_of : Content → ℕ
kind_of (Put key value) = 1
kind_of (Delete key) = 2
kind_of (Entries entries) = 3
kind_of Clean = 4
kind_of (Compact index) = 5

-- an item: its kind in one byte, its group, and its content
abbrev pub item_bytes : Item → List ℕ
item_bytes item = kind_of item.content ∷ u64_bytes item.group ++ content_bytes item.content

-- items, one after another
abbrev pub items_bytes : Batch → List ℕ
items_bytes [] = []
items_bytes (item ∷ items) = item_bytes item ++ items_bytes items

-- the number of the items, and the items
abbrev pub batch_bytes : Batch → List ℕ
batch_bytes items = u64_bytes (length items) ++ items_bytes items

-- How it is read.

-- the first part of these bytes, and the rest
abbrev pub take_part : List ℕ → Option (List ℕ × List ℕ)
take_part bytes = option_and_then (λ n. take_bytes n.0 n.1) (take_u64 bytes)

-- a put of the first two parts as key and value, and the rest
abbrev pub take_put : List ℕ → Option (Content × List ℕ)
take_put bytes = option_and_then
    (λ key. option_map (λ value. (Put key.0 value.0, value.1)) (take_part key.1))
    (take_part bytes)

-- a delete of the first part as its key, and the rest
abbrev pub take_delete : List ℕ → Option (Content × List ℕ)
take_delete bytes = option_map (λ key. (Delete key.0, key.1)) (take_part bytes)

-- the index in the first bytes of an entry
abbrev pub index_in : List ℕ → Option ℕ
index_in bytes = option_map (λ taken. taken.0) (take_u64 bytes)

-- the first part as an entry, with the index that it begins with, and the rest
abbrev pub take_entry : List ℕ → Option (Entry × List ℕ)
take_entry bytes = option_and_then
    (λ part. option_map (λ index. ((index, part.0), part.1)) (index_in part.0))
    (take_part bytes)

-- this many entries, and the rest
unfoldable pub take_each : ℕ → List ℕ → Option (List Entry × List ℕ)
take_each zero bytes = Some ([], bytes)
take_each (suc n) bytes = option_and_then
    (λ e. option_map (λ es. (e.0 ∷ es.0, es.1)) (take_each n e.1))
    (take_entry bytes)

-- a number of entries, at least one, the entries, and the rest
abbrev pub take_entries : List ℕ → Option (Content × List ℕ)
take_entries bytes = option_and_then
    (λ n. if n.0 == 0 then None
    else option_map (λ es. (Entries es.0, es.1)) (take_each n.0 n.1))
    (take_u64 bytes)

-- a compaction up to the first number, and the rest
abbrev pub take_compact : List ℕ → Option (Content × List ℕ)
take_compact bytes = option_map (λ index. (Compact index.0, index.1)) (take_u64 bytes)

-- the content of an item of this kind, and the rest; none for another kind
abbrev pub take_content : ℕ → List ℕ → Option (Content × List ℕ)
take_content kind bytes =
    if kind == 1 then take_put bytes
    else if kind == 2 then take_delete bytes
    else if kind == 3 then take_entries bytes
    else if kind == 4 then Some (Clean, bytes)
    else if kind == 5 then take_compact bytes
    else None

-- the first item of these bytes, and the rest
abbrev pub take_item : List ℕ → Option (Item × List ℕ)
take_item bytes = option_and_then
    (λ kind. option_and_then
    (λ group. option_map (λ c. (record { group = group.0; content = c.0 }, c.1)) (take_content kind.0 group.1))
    (take_u64 kind.1))
    (take_byte bytes)

-- this many items, and the rest
unfoldable pub take_items : ℕ → List ℕ → Option (Batch × List ℕ)
take_items zero bytes = Some ([], bytes)
take_items (suc n) bytes = option_and_then
    (λ i. option_map (λ is. (i.0 ∷ is.0, is.1)) (take_items n i.1))
    (take_item bytes)

-- the items, if no byte is left after them
abbrev pub all_items : Batch × List ℕ → Option Batch
all_items (items, []) = Some items
all_items (items, (b ∷ bs)) = None

-- the batch that these bytes encode, if they encode one
abbrev pub read_batch : List ℕ → Option Batch
read_batch bytes = option_and_then (λ n. option_and_then all_items (take_items n.0 n.1)) (take_u64 bytes)

-- What can be written so.

-- an entry begins with its index
abbrev pub IsGivenEntry : Entry → Type 0
IsGivenEntry e = (length e.1 < 2 ^ 64) × (index_in e.1 ≡ Some e.0)

-- lengths and numbers are below 2^64, and entries are not empty
abbrev pub IsGivenContent : Content → Type 0
IsGivenContent (Put key value) = (length key < 2 ^ 64) × (length value < 2 ^ 64)
IsGivenContent (Delete key) = length key < 2 ^ 64
IsGivenContent (Entries []) = ⊥
IsGivenContent (Entries (e ∷ es)) =
    (length (e ∷ es) < 2 ^ 64) × AllByRecursion IsGivenEntry (e ∷ es)
IsGivenContent Clean = Unit {0}
IsGivenContent (Compact index) = index < 2 ^ 64

-- the item can be encoded
abbrev pub IsGivenItem : Item → Type 0
IsGivenItem item = (item.group < 2 ^ 64) × IsGivenContent item.content

-- the batch can be encoded: each of its numbers is below 2^64
abbrev pub IsGivenBatch : Batch → Type 0
IsGivenBatch items = (length items < 2 ^ 64) × AllByRecursion IsGivenItem items

-- Reading on.

-- the items and one more of this group, with the content that was read, and the rest
abbrev pub with_taken : Batch → ℕ → Content × List ℕ → Batch × List ℕ
with_taken items group taken = (items ++ record { group = group; content = taken.0 } ∷ [], taken.1)

-- the items and the one that was read, and the rest
abbrev pub with_item_taken : Batch → Item × List ℕ → Batch × List ℕ
with_item_taken items taken = (items ++ taken.0 ∷ [], taken.1)

-- the index and the bytes of an entry
abbrev pub stored_of : StoredEntry → Entry
stored_of e = (e.index, e.bytes.items)
