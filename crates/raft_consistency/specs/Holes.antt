-- The holes that a group's entries leave.
use Rattle.std.specs.Prelude.{◌≡◌, ◌==◌, ℕ, ◌+◌, nat_eq, nat_lt, List, [], ◌∷◌, Option, Some, None, if◌then◌else◌}
use Rattle.std.specs.HashMap as hash
use Rattle.std.specs.List.{flat_map}
use Rattle.std.specs.List.Sorted.{IsStrictlySortedBy}
use Rattle.std.specs.Map.{keys_of, lookup}
use Rattle.std.specs.Option.{option_and_then, option_or}
use Rattle.std.specs.Ordering.{nat_cmp}
use Rattle.raft_records.specs.Contents.{first_index_of, last_index_of}
use Rattle.raft_records.specs.Item.{Content, Entries, Clean, Compact, Put, Delete, Item, Batch}
use Rattle.raft_recovery_laws.specs.Recovered.{items_of}
use Rattle.raft_consistency.specs.declared.checker.ConsistencyChecker.{ConsistencyChecker}
use Rattle.raft_consistency.specs.declared.checker.GroupEntries.{GroupEntries}

-- the first and the last index of an item's entries
abbrev pub IndexRange : Type 0
IndexRange = ℕ × ℕ

-- the range of these two indexes, or none if one is missing
abbrev pub range_of : Option ℕ → Option ℕ → List IndexRange
range_of None last = []
range_of (Some first) None = []
range_of (Some first) (Some last) = (first, last) ∷ []

-- the range of a content's entries, or none if it has no entries
abbrev pub range_by : Content → List IndexRange
range_by (Entries es) = range_of (first_index_of es) (last_index_of es)
range_by Clean = []
range_by (Compact index) = []
range_by (Put key value) = []
range_by (Delete key) = []

-- the range of an item's entries, if the item is of this group
abbrev pub ranges_by : ℕ → Item → List IndexRange
ranges_by group item = if group == item.group then range_by item.content else []

-- the ranges of a group's items, in order
abbrev pub ranges_of : ℕ → List Item → List IndexRange
ranges_of group items = flat_map (ranges_by group) items

-- a range that starts here leaves a hole after the last index
abbrev pub hole_before : ℕ → ℕ → Option ℕ
hole_before last first = if nat_lt (last + 1) first then Some last else None

-- the last index before the first range that starts more than one past it
abbrev pub hole_after : ℕ → List IndexRange → Option ℕ
hole_after last [] = None
hole_after last (r ∷ rs) = option_or (hole_before last r.0) (hole_after r.1 rs)

-- the last index before the first hole between these ranges
abbrev pub first_hole : List IndexRange → Option ℕ
first_hole [] = None
first_hole (r ∷ rs) = hole_after r.1 rs

-- for each group the last index before the first hole in its entries
abbrev pub holes_in : List Batch → ℕ → Option ℕ
holes_in batches group = first_hole (ranges_of group (items_of batches))

-- the last index of the ranges, or this one if there are none
abbrev pub last_after : ℕ → List IndexRange → ℕ
last_after last [] = last
last_after last (r ∷ rs) = last_after r.1 rs

-- what a checker keeps of a group whose entries have these ranges
abbrev pub kept_of : List IndexRange → Option GroupEntries
kept_of [] = None
kept_of (r ∷ rs) = Some (record {
  first = r.0;
  last = last_after r.1 rs;
  hole = hole_after r.1 rs;
})

-- what a checker keeps of older ranges followed by newer ones
abbrev pub kept_then : Option GroupEntries → Option GroupEntries → Option GroupEntries
kept_then older None = older
kept_then None (Some n) = Some n
kept_then (Some o) (Some n) = Some (record {
  first = o.first;
  last = n.last;
  hole = option_or (option_or o.hole (hole_before o.last n.first)) n.hole;
})

-- what a checker keeps of a group
abbrev pub kept_in : ConsistencyChecker → ℕ → Option GroupEntries
kept_in checker group = hash.get nat_eq checker.groups group

-- the hole that a checker found in a group
abbrev pub hole_in : ConsistencyChecker → ℕ → Option ℕ
hole_in checker group = option_and_then (λ kept. kept.hole) (kept_in checker group)

-- the checker was given these batches
abbrev pub HasTaken : List Batch → ConsistencyChecker → Type 0
HasTaken batches checker =
    (group : ℕ) → kept_in checker group ≡ kept_of (ranges_of group (items_of batches))

-- the pairs are the groups with holes and their places, each group once and in order
pub record AreHoles (holes : ℕ → Option ℕ) (pairs : List (ℕ × ℕ)) : Type 0 where
  pub ascending : IsStrictlySortedBy nat_cmp (keys_of pairs)
  pub value : (group : ℕ) → lookup (nat_eq group) pairs ≡ holes group
