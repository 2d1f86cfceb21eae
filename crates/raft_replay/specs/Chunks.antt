-- What a chunk of batches does to what a group had before it, and what two chunks leave together.
use Rattle.std.specs.Prelude.{ℕ, ◌+◌, ◌==◌, ◌&&◌, ◌||◌, not, min, max, nat_le, nat_lt, Bool, true, false, List, [], ◌∷◌, length, filter, fold, Option, Some, None, if◌then◌else◌}
use Rattle.std.specs.Str.{bytes_eq}
use Rattle.raft_records.specs.Item.{Entry, Content, Entries, Clean, Compact, Put, Delete, Item, Batch}
use Rattle.raft_records.specs.Contents.{with_entries}
use Rattle.raft_recovery_laws.specs.Recovered.{items_of}
pub use Rattle.raft_replay.specs.declared.chunk_reach.Reach.{Reach}
pub use Rattle.raft_replay.specs.declared.chunk_reach.Starts.{Starts}

-- the effect of no items
abbrev pub no_reach : Reach
no_reach = record { cleaned = false; compacted = 0; starts = None }

-- the starts of older items and then of newer ones
abbrev pub starts_then : Option Starts → Option Starts → Option Starts
starts_then None newer = newer
starts_then (Some o) None = Some o
starts_then (Some o) (Some n) = Some (record {
  first = o.first;
  least = min o.least n.least;
  end = n.end;
  has_hole = o.has_hole || (n.has_hole || nat_lt o.end n.first);
})

-- the effect of older items and then of newer ones
abbrev pub reach_then : Reach → Reach → Reach
reach_then older newer = if newer.cleaned then newer else record {
  cleaned = older.cleaned;
  compacted = max older.compacted newer.compacted;
  starts = starts_then older.starts newer.starts;
}

-- the effect of one item
abbrev pub reach_by : Content → Reach
reach_by (Entries []) = no_reach
reach_by (Entries (e ∷ es)) = record {
  cleaned = false;
  compacted = 0;
  starts = Some (record {
    first = e.0;
    least = e.0;
    end = e.0 + length (e ∷ es);
    has_hole = false;
  });
}
reach_by Clean = record { cleaned = true; compacted = 0; starts = None }
reach_by (Compact index) = record { cleaned = false; compacted = index; starts = None }
reach_by (Put key value) = no_reach
reach_by (Delete key) = no_reach

-- the effect of the items before, and then of this one if it is of the group
abbrev pub reach_after : ℕ → Reach → Item → Reach
reach_after group r item = if group == item.group then reach_then r (reach_by item.content) else r

-- what the batches do to what the group had before them
abbrev pub reach_in : ℕ → List Batch → Reach
reach_in group batches = fold (reach_after group) no_reach (items_of batches)

-- newer entries that start so leave an older entry with this index
abbrev pub starts_leave : Option Starts → ℕ → Bool
starts_leave None index = true
starts_leave (Some s) index = nat_lt index s.least

-- an older entry with this index is left alone
abbrev pub reach_leaves : Reach → ℕ → Bool
reach_leaves r index =
    not r.cleaned && (nat_le r.compacted index && starts_leave r.starts index)

-- newer items replace all older entries: one starts past the end of the one before it
abbrev pub starts_replace : Option Starts → Option Starts → Bool
starts_replace older None = false
starts_replace None (Some n) = false
starts_replace (Some o) (Some n) = n.has_hole || nat_lt o.end n.first

-- the entries of a group of which older items left the one list and newer ones the other
abbrev pub merged_entries : Reach → Reach → List Entry → List Entry → List Entry
merged_entries older newer old new = with_entries
    (if starts_replace older.starts newer.starts then [] else filter (λ e. reach_leaves newer e.0) old)
    new

-- whether a key was deleted since the last clean, after one more change of its group
abbrev pub deleted_by : List ℕ → Bool → Content → Bool
deleted_by key d (Entries es) = d
deleted_by key d Clean = false
deleted_by key d (Compact index) = d
deleted_by key d (Put changed value) = d
deleted_by key d (Delete changed) = d || bytes_eq key changed

-- whether a key was deleted since the last clean, after one more item
abbrev pub deleted_after : ℕ → List ℕ → Bool → Item → Bool
deleted_after group key d item =
    if group == item.group then deleted_by key d item.content else d

-- whether the batches deleted the group's key since they last cleaned the group
abbrev pub deleted_in : ℕ → List ℕ → List Batch → Bool
deleted_in group key batches = fold (deleted_after group key) false (items_of batches)
