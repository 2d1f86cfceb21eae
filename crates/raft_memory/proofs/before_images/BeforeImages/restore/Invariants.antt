use Rattle.std.proofs.Common.{◌≡◌, ◌<◌, ◌≤◌, ℕ, length, take, drop, get_or, unwrap_or}
use Rattle.raft_memory.specs.MemoryFile.{places_len, before_image_in}
use Rattle.raft_memory.proofs.before_images.BeforeImages.restore.Given as goal

-- what the ranges from this one on saved stands in its places
abbrev pub invariant-loop-left : goal.invariant-loop-left
invariant-loop-left l = record {
  within : l.left ≤ length l.self-inside.places.items;
  end_is : l.end ≡ places_len (take l.left l.self-inside.places.items);
  last : l.end ≤ length l.self-inside.bytes.items;
  len : length l.bytes ≡ length l.fn.bytes;
  each : (i : ℕ) → i < length l.fn.bytes → get_or l.bytes i 0 ≡ unwrap_or (before_image_in (drop l.left l.self-inside.places.items) (drop l.end l.self-inside.bytes.items) i) (get_or l.fn.bytes i 0);
}

abbrev pub decreases-loop-left : goal.decreases-loop-left
decreases-loop-left l = l.left
