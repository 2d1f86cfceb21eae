-- Marks that are owed, in memory.
use Rattle.std.specs.Prelude.{ℕ, ◌&&◌, nat_lt, Bool, false, Vec, Option, Some, None, is_some, unwrap_or, List, [], ◌∷◌, ◌++◌, map, if◌then◌else◌}
use Rattle.std.specs.BTreeMap as tree
use Rattle.std.specs.BTreeSet as set
use Rattle.std.specs.BTreeSet.{BTreeSet}
use Rattle.std.specs.List.{list_any}
use Rattle.std.specs.Option.{option_map}
use Rattle.std.specs.Ordering.{nat_cmp}
use Rattle.std.specs.Str.{bytes_eq}
use Rattle.std.specs.declared.alloc.Global.{Global}
use Rattle.raft_records.specs.Item.{Item, Clean, Compact, Delete}
use Rattle.raft_records.specs.Validity.{are_in_order}
use Rattle.raft_tables.specs.Owed.{Owed}
use Rattle.raft_tables.specs.Tables.{Tables, or_empty}
use Rattle.raft_tables.specs.WrittenMarks.{mark_index}
use Rattle.raft_tables.specs.declared.owed.OwedMarks.{OwedMarks}
use Rattle.raft_tables.specs.declared.span.Span.{Span}

-- whether a key is one of these
abbrev pub is_key_of : List ℕ → BTreeSet (Vec ℕ Global) → Bool
is_key_of key keys = list_any (λ k. bytes_eq key k.items) (set.keys keys)

-- the marks of each group
abbrev pub owed_of : OwedMarks → Owed
owed_of m group = record {
  cleaned = set.contains nat_cmp m.cleaned group;
  compacted = set.contains nat_cmp m.compacted group;
  deleted = λ key. unwrap_or (option_map (is_key_of key) (tree.get nat_cmp m.deleted group)) false;
}

-- entries leave a hole behind those with these indexes
abbrev pub leave_hole : {X : Type 0} → Option Span → List (ℕ × X) → Bool
leave_hole span [] = false
leave_hole None (e ∷ es) = false
leave_hole (Some s) (e ∷ es) = nat_lt s.end e.0 && are_in_order (e ∷ es)

-- a clean of each group
abbrev pub cleans_of : List ℕ → List Item
cleans_of groups = map (λ g. record { group = g; content = Clean }) groups

-- a delete of each key that isn't there
abbrev pub deletes_of : Tables → ℕ → List (Vec ℕ Global) → List Item
deletes_of t group [] = []
deletes_of t group (k ∷ keys) =
    if is_some ((or_empty (t group)).keys k.items)
    then deletes_of t group keys
    else record { group = group; content = Delete k.items } ∷ deletes_of t group keys

-- a delete of each key that isn't there, of each group
abbrev pub all_deletes : Tables → List (ℕ × BTreeSet (Vec ℕ Global)) → List Item
all_deletes t [] = []
all_deletes t (e ∷ es) = deletes_of t e.0 (set.keys e.1) ++ all_deletes t es

-- a compaction of each group, to its first entry
abbrev pub compactions_of : Tables → List ℕ → List Item
compactions_of t groups = map
    (λ g. record { group = g; content = Compact (mark_index (or_empty (t g)).entries) }) groups
