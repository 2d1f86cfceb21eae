-- What a file keeps of its file.
use Rattle.std.specs.Prelude.{◌≡◌, ℕ, Bool, false, ◌+◌, ◌-◌, ◌<◌, ◌≤◌, length, drop, List, [], ◌∷◌, Option, Some, None, unwrap_or, slice_index, if◌then◌else◌}
use Rattle.std.specs.List.{list_any}
use Rattle.raft_env.specs.Outcomes.{File, is_within, is_touched, least_len, greatest_len}

-- a place is in one of the ranges, each of them a first place and a size
abbrev pub is_covered : List (ℕ × ℕ) → ℕ → Bool
is_covered ranges i = list_any (λ r. is_within r.0 r.1 i) ranges

-- ranges, each a first place and a size, and the bytes that stood there, one after the other
abbrev pub BeforeImages : Type 0
BeforeImages = List (ℕ × ℕ) × List ℕ

-- how many bytes the ranges have
abbrev pub places_len : List (ℕ × ℕ) → ℕ
places_len [] = 0
places_len (p ∷ places) = p.1 + places_len places

-- the byte of a place in the first range that has it
abbrev pub before_image_in : List (ℕ × ℕ) → List ℕ → ℕ → Option ℕ
before_image_in [] bytes i = None
before_image_in (p ∷ places) bytes i =
    if is_within p.0 p.1 i then Some (slice_index bytes (i - p.0))
    else before_image_in places (drop p.1 bytes) i

-- the byte before the change, if it is saved
abbrev pub before_image_at : BeforeImages → ℕ → Option ℕ
before_image_at saved = before_image_in saved.0 saved.1

-- the bytes of the last sync are those now, but for what was saved, and from a place on zeros
pub record IsSaved (bytes : List ℕ) (saved : BeforeImages) (stored len : ℕ)
    (synced : List ℕ) : Type 0 where
  pub len_is : length synced ≡ len
  pub each : (i : ℕ) → i < stored
      → slice_index synced i ≡ unwrap_or (before_image_at saved i) (slice_index bytes i)
  pub zeros : (i : ℕ) → stored ≤ i → slice_index synced i ≡ 0

-- outside the ranges the bytes are those of the last sync
pub record Agree (ranges : List (ℕ × ℕ)) (bytes synced : List ℕ) : Type 0 where
  pub each : (i : ℕ) → is_covered ranges i ≡ false → slice_index bytes i ≡ slice_index synced i

-- the bytes, the ranges and the lengths of a file are those of the file
pub record IsFileOf (bytes synced : List ℕ) (ranges : List (ℕ × ℕ)) (low high : ℕ)
    (file : File) : Type 0 where
  pub now : file.now ≡ bytes
  pub on_disk : file.synced ≡ synced
  pub touched : (i : ℕ) → is_touched file.changes i ≡ is_covered ranges i
  pub agree : Agree ranges bytes synced
  pub low_is : least_len file.synced file.changes ≡ low
  pub high_is : greatest_len file.synced file.changes ≡ high
  pub above_low : low ≤ length bytes
  pub below_high : length bytes ≤ high

-- outside the ranges the bytes are those of the last sync, as far as both go
pub record SameOutside (ranges : List (ℕ × ℕ)) (synced bytes : List ℕ) : Type 0 where
  pub each : (i : ℕ) → i < length bytes → i < length synced → is_covered ranges i ≡ false
      → slice_index bytes i ≡ slice_index synced i
