-- What an image lists.
use Rattle.std.specs.Prelude.{◌≡◌, ℕ, false, List, [], map, nat_eq, Vec}
use Rattle.std.specs.declared.alloc.Global.{Global}
use Rattle.std.specs.List.{AllByRecursion, list_any}
use Rattle.std.specs.List.Sorted.{IsStrictlySortedBy}
use Rattle.std.specs.Ordering.{nat_cmp}
use Rattle.raft_records.specs.Contents.{Contents}
use Rattle.raft_records.specs.Item.{Entry}
use Rattle.raft_tables.specs.Listing.{IsListing, IsWithoutKeys, listed}
use Rattle.raft_log_engine.specs.declared.engine.image.GroupImage.{GroupImage}

-- the numbers of the groups of an image
abbrev pub groups_of : List GroupImage → List ℕ
groups_of images = map (λ image. image.group) images

-- the indexes and bytes of entries
abbrev pub entries_of : List (ℕ × Vec ℕ Global) → List Entry
entries_of entries = map (λ e. (e.0, e.1.items)) entries

-- the image lists the entries and keys of its group, which has some
pub record IsGroupImageOf (m : Contents) (image : GroupImage) : Type 0 where
  pub entries : entries_of image.entries.items ≡ m.entries image.group
  pub keys : IsListing (m.value image.group) (listed image.pairs.items)
  pub some : image.entries.items ≡ [] → image.pairs.items ≡ [] → ⊥

-- the group has neither entries nor keys
abbrev pub IsWithout : Contents → ℕ → Type 0
IsWithout m group = (m.entries group ≡ []) × IsWithoutKeys m group

-- the groups with entries or keys, each once and in order, with what they hold
pub record IsImageOf (images : List GroupImage) (m : Contents) : Type 0 where
  pub ascending : IsStrictlySortedBy nat_cmp (groups_of images)
  pub each : AllByRecursion (IsGroupImageOf m) images
  pub others : (group : ℕ) → list_any (nat_eq group) (groups_of images) ≡ false → IsWithout m group
