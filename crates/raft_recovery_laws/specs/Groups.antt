-- Which batches of the Rewrite queue count: a batch of an atomic group counts where its group is
-- complete.
use Rattle.std.specs.Prelude.{ℕ, ◌==◌, ◌&&◌, ◌||◌, Bool, true, false, List, [], ◌∷◌, filter, Option, Some, None, if◌then◌else◌}
use Rattle.std.specs.List.{list_any, filter_map}
use Rattle.std.specs.Str.{bytes_eq}
use Rattle.raft_records.specs.Record.{Begin, End, mark_byte}
use Rattle.raft_records.specs.Item.{Content, Entries, Clean, Compact, Put, Delete, Batch, group_mark_key}

-- the mark of an atomic group: its id, and the bytes of where in the group its batch stands
pub record GroupMark : Type 0 where
  pub id : ℕ
  pub place : List ℕ

-- the place bytes of a group's first batch
abbrev pub first_place : List ℕ
first_place = mark_byte Begin ∷ []

-- the place bytes of a group's last batch
abbrev pub last_place : List ℕ
last_place = mark_byte End ∷ []

-- the mark that an item is
abbrev pub mark_in : ℕ → Content → Option GroupMark
mark_in group (Entries es) = None
mark_in group Clean = None
mark_in group (Compact index) = None
mark_in group (Put key value) =
    if bytes_eq key group_mark_key then Some (record { id = group; place = value }) else None
mark_in group (Delete key) = None

-- the mark that a batch begins with
abbrev pub mark_of : Batch → Option GroupMark
mark_of [] = None
mark_of (item ∷ items) = mark_in item.group item.content

-- the place bytes of a mark, where it has this id
abbrev pub place_by : ℕ → Option GroupMark → Option (List ℕ)
place_by id None = None
place_by id (Some mark) = if mark.id == id then Some mark.place else None

-- the place bytes of the batches of one atomic group, in order
abbrev pub places_in : ℕ → List Batch → List (List ℕ)
places_in id batches = filter_map (λ b. place_by id (mark_of b)) batches

-- the last batch of a group is among these
abbrev pub has_last : List (List ℕ) → Bool
has_last places = list_any (λ p. bytes_eq p last_place) places

-- the first batch of a group is among these, and the last one after it
abbrev pub is_complete : List (List ℕ) → Bool
is_complete [] = false
is_complete (p ∷ ps) = (bytes_eq p first_place && has_last ps) || is_complete ps

-- among these batches, a batch with this mark counts
abbrev pub mark_counts : List Batch → Option GroupMark → Bool
mark_counts batches None = true
mark_counts batches (Some mark) = is_complete (places_in mark.id batches)

-- among these batches, this one counts
abbrev pub batch_counts : List Batch → Batch → Bool
batch_counts batches b = mark_counts batches (mark_of b)

-- the batches that count
abbrev pub whole : List Batch → List Batch
whole batches = filter (batch_counts batches) batches

-- the mark has this id
abbrev pub has_id : ℕ → Option GroupMark → Bool
has_id id None = false
has_id id (Some mark) = mark.id == id

-- the batch is one of the atomic group with this id
abbrev pub is_of_group : ℕ → Batch → Bool
is_of_group id b = has_id id (mark_of b)
