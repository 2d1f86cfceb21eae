-- What images list, as lists of bytes, and what a batch does to it.
use Rattle.std.specs.Prelude.{◌≡◌, ℕ, ◌&&◌, nat_eq, nat_le, nat_lt, Bool, true, false, List, [], ◌∷◌, ◌++◌, filter, map, Option, Some, None, unwrap_or, if◌then◌else◌}
use Rattle.std.specs.Cmp.Lexicographic.{slice_cmp}
use Rattle.std.specs.List.{AllByRecursion}
use Rattle.std.specs.List.Sorted.{IsStrictlySortedBy}
use Rattle.std.specs.Map.{keys_of, lookup}
use Rattle.std.specs.Ordering.{is_lt, nat_cmp}
use Rattle.std.specs.Str.{bytes_eq}
use Rattle.std.specs.declared.cmp.Ordering.{Ordering}
use Rattle.raft_base.specs.declared.errors.Fault.{Fault}
use Rattle.raft_once.specs.Numbers.{number_in, number_key}
use Rattle.raft_records.specs.Contents.{Contents, with_entries}
use Rattle.raft_records.specs.Item.{Clean, Compact, Content, Delete, Entries, Entry, Item, Put, group_mark_key}
use Rattle.raft_records.specs.Validity.{entries_refusal}
use Rattle.raft_tables.specs.Listing.{IsListing, listed}
use Rattle.raft_log_engine.specs.Image.{entries_of}
use Rattle.raft_log_engine.specs.declared.engine.image.GroupImage.{GroupImage}

-- keys with values, in the keys' order
abbrev pub Pairs : Type 0
Pairs = List (List ℕ × List ℕ)

-- what a group has
pub record Held : Type 0 where
  pub entries : List Entry
  pub pairs : Pairs

-- a group without entries and keys
abbrev pub nothing : Held
nothing = record { entries = []; pairs = [] }

-- the list is empty
abbrev pub is_nil : {X : Type 0} → List X → Bool
is_nil [] = true
is_nil (x ∷ xs) = false

-- the group has no entries and no keys
abbrev pub is_nothing : Held → Bool
is_nothing held = is_nil held.entries && is_nil held.pairs

-- groups with what they have
abbrev pub Groups : Type 0
Groups = List (ℕ × Held)

-- what an image of a group lists
abbrev pub held_in : GroupImage → Held
held_in image = record {
  entries = entries_of image.entries.items;
  pairs = listed image.pairs.items;
}

-- the group of an image, with what the image lists
abbrev pub group_with_held : GroupImage → ℕ × Held
group_with_held image = (image.group, held_in image)

-- what images list
abbrev pub held_of : List GroupImage → Groups
held_of images = map group_with_held images

-- Lists in the order of their keys.

-- the key is after this one; `None` is before all
abbrev pub is_past : {K : Type 0} → (K → K → Ordering) → Option K → K → Bool
is_past cmp None key = true
is_past cmp (Some bound) key = is_lt (cmp bound key)

-- the key is before this one; `None` is after all
abbrev pub is_short : {K : Type 0} → (K → K → Ordering) → Option K → K → Bool
is_short cmp None key = true
is_short cmp (Some bound) key = is_lt (cmp key bound)

-- the key is between these two
abbrev pub is_between : {K : Type 0} → (K → K → Ordering) → Option K → Option K → K → Bool
is_between cmp after before key = is_past cmp after key && is_short cmp before key

-- the elements of a list whose keys are between these two
abbrev pub between : {K V : Type 0} → (K → K → Ordering) → Option K → Option K → List (K × V)
    → List (K × V)
between cmp after before list = filter (λ e. is_between cmp after before e.0) list

-- the index is at least `from`, and below the other bound, if there is one
abbrev pub is_within : ℕ → Option ℕ → ℕ → Bool
is_within from None index = nat_le from index
is_within from (Some to) index = nat_le from index && nat_lt index to

-- the key with its value, if it has one
abbrev pub with_one : {K V : Type 0} → K → Option V → List (K × V)
with_one key None = []
with_one key (Some value) = (key, value) ∷ []

-- the list with this value at the key, or without the key; the others are as they are
abbrev pub put_at : {K V : Type 0} → (K → K → Ordering) → K → Option V → List (K × V)
    → List (K × V)
put_at cmp key value list =
    between cmp None (Some key) list ++ with_one key value ++ between cmp (Some key) None list

-- the number that a group with this keeps for writes that act once
abbrev pub kept_of : Held → ℕ
kept_of held = number_in (lookup (bytes_eq number_key) held.pairs)

-- Changes.

-- the pairs with this value at the key, or without the key
abbrev pub with_pair : List ℕ → Option (List ℕ) → Pairs → Pairs
with_pair key value pairs = put_at (slice_cmp nat_cmp) key value pairs

-- a group with these pairs in place of its own
abbrev pub with_pairs : Held → Pairs → Held
with_pairs held pairs = record { entries = held.entries; pairs = pairs }

-- a group with these entries in place of its own
abbrev pub with_list : Held → List Entry → Held
with_list held entries = record { entries = entries; pairs = held.pairs }

-- what a group has after a change of it
abbrev pub held_after : Content → Held → Held
held_after (Entries es) held = with_list held (with_entries held.entries es)
held_after Clean held = nothing
held_after (Compact index) held =
    with_list held (filter (λ e. nat_le index e.0) held.entries)
held_after (Put key value) held =
    if bytes_eq key group_mark_key then held
    else with_pairs held (with_pair key (Some value) held.pairs)
held_after (Delete key) held = with_pairs held (with_pair key None held.pairs)

-- why a group that has this refuses a change
abbrev pub refusal_of : Held → Content → Option Fault
refusal_of held (Entries es) = entries_refusal held.entries es
refusal_of held Clean = None
refusal_of held (Compact index) = None
refusal_of held (Put key value) = None
refusal_of held (Delete key) = None

-- what one of the groups has: nothing if it isn't listed
abbrev pub held_at : ℕ → Groups → Held
held_at group groups = unwrap_or (lookup (nat_eq group) groups) nothing

-- what a group has, or `None` if it has nothing
abbrev pub if_any : Held → Option Held
if_any held = if is_nothing held then None else Some held

-- the groups with this in one of them, which isn't listed if it has nothing
abbrev pub with_held : ℕ → Held → Groups → Groups
with_held group held groups = put_at nat_cmp group (if_any held) groups

-- what groups have after an item
abbrev pub groups_after : Groups → Item → Groups
groups_after groups item =
    with_held item.group (held_after item.content (held_at item.group groups)) groups

-- Groups that represent contents.

-- the contents have in the group exactly what is listed
pub record IsHeldAt (m : Contents) (group : ℕ) (held : Held) : Type 0 where
  pub entries : held.entries ≡ m.entries group
  pub keys : IsListing (m.value group) held.pairs

-- the groups have exactly what the contents have, and each of them has something
pub record AreGroupsOf (m : Contents) (groups : Groups) : Type 0 where
  pub ascending : IsStrictlySortedBy nat_cmp (keys_of groups)
  pub each : (group : ℕ) → IsHeldAt m group (held_at group groups)
  pub some : AllByRecursion (λ g. is_nothing g.1 ≡ false) groups

-- the images list what the contents have
abbrev pub IsHeldBy : Contents → List GroupImage → Type 0
IsHeldBy m images = AreGroupsOf m (held_of images)
