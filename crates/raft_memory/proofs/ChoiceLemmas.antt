-- What a choice leaves of a file, and that storage may leave it.
use Rattle.std.proofs.Common.{◌≡◌, ℕ, ◌+◌, ◌-◌, ◌<◌, Bool, cond, eqb, leb, ◌&&◌, List, [], ◌∷◌, ◌++◌, length, get_or, map, refl, sym, ◌∙◌, ap, add-one, arith, ◌≤◌}
use Rattle.std.specs.Prelude.{◌==◌}
use Rattle.std.specs.List.{range_with_len}
use Rattle.std.proofs.lemmas.Bool.Decides.{nat_tests}
use Rattle.std.proofs.lemmas.List.FromFn.{map-range_with_len_more, length-map-range_with_len, get_or-map-range_with_len}
use Rattle.raft_env.specs.Outcomes.{File, MayLeave, is_touched, Change, least_len, greatest_len}
use Rattle.raft_memory.specs.MemoryFile.{IsFileOf, is_covered}
use Rattle.raft_memory.specs.Choice.{torn_bytes, torn_byte, touched_before}
use Rattle.raft_memory.proofs.MemoryFileLemmas.{may_leave}

-- the length at the last sync counts too
least_synced : (synced : List ℕ) (changes : List Change) → least_len synced changes ≤ length synced
least_synced synced [] = omega arith
least_synced synced (c ∷ changes) = omega (arith, least_synced synced changes)

greatest_synced : (synced : List ℕ) (changes : List Change) → length synced ≤ greatest_len synced changes
greatest_synced synced [] = omega arith
greatest_synced synced (c ∷ changes) = omega (arith, greatest_synced synced changes)

pub synced_may_be_left : (file : File) → MayLeave file file.synced
synced_may_be_left file = record {
  no_shorter = least_synced file.synced file.changes;
  no_longer = greatest_synced file.synced file.changes;
  untouched = λ i h s apart. refl;
}

-- the first so many are used up just where as many were touched before
used_up : (kept before : ℕ) (left : ℕ) → left ≡ kept - before → eqb left 0 ≡ leb kept before
used_up kept before left is = grind (arith, nat_tests)

pub torn_more : (touched : ℕ → Bool) (kept fill : ℕ) (now : List ℕ) (i left : ℕ) (covered : Bool) (done : List ℕ) (byte : ℕ)
    → left ≡ kept - touched_before touched i → covered ≡ touched i → done ≡ map (torn_byte touched kept fill now) (range_with_len 0 i) → byte ≡ cond (covered && (left == 0)) fill (get_or now i 0)
    → done ++ byte ∷ [] ≡ map (torn_byte touched kept fill now) (range_with_len 0 (i + 1))
torn_more touched kept fill now i left covered done byte left_is covered_is done_is byte_is =
    let same : byte ≡ torn_byte touched kept fill now i = byte_is ∙ ap (λ b. cond (b && eqb left 0) fill (get_or now i 0)) covered_is ∙ ap (λ b. cond (touched i && b) fill (get_or now i 0)) (used_up kept (touched_before touched i) left left_is) in
    rw (done_is, same) (sym (map-range_with_len_more (torn_byte touched kept fill now) 0 i i (omega arith)))

pub left_more : (touched : ℕ → Bool) (kept i left after : ℕ) (covered : Bool) → left ≡ kept - touched_before touched i → covered ≡ touched i → after ≡ left - cond covered 1 0 → after ≡ kept - touched_before touched (i + 1)
left_more touched kept i left after covered left_is covered_is after_is =
    let same : after ≡ left - cond (touched i) 1 0 = after_is ∙ ap (λ b. left - cond b 1 0) covered_is in
    rw add-one (omega arith)

module _ (bytes synced : List ℕ) (ranges : List (ℕ × ℕ)) (low high : ℕ) (file : File) (k : IsFileOf bytes synced ranges low high file) (kept fill : ℕ) where
  -- the ranges of a file cover what was touched
  pub torn-covered : torn_bytes (is_covered ranges) kept fill bytes ≡ torn_bytes (is_touched file.changes) kept fill file.now
  torn-covered =
      let same : (i : ℕ) → is_covered ranges i ≡ is_touched file.changes i = λ i. sym (k.touched i) in
      let tests : is_covered ranges ≡ is_touched file.changes = λ j. λ i. same i j in
      ap (λ (touched : ℕ → Bool). torn_bytes touched kept fill bytes) tests ∙ ap (torn_bytes (is_touched file.changes) kept fill) (sym k.now)

  pub torn_may_be_left : MayLeave file (torn_bytes (is_covered ranges) kept fill bytes)
  torn_may_be_left =
      let byte = torn_byte (is_covered ranges) kept fill bytes in
      let len : length (torn_bytes (is_covered ranges) kept fill bytes) ≡ length bytes = length-map-range_with_len byte 0 (length bytes) in
      may_leave bytes synced ranges low high file k (torn_bytes (is_covered ranges) kept fill bytes) (omega (arith, len, k.above_low)) (omega (arith, len, k.below_high)) (λ i h s apart.
      let inside : i < length bytes = omega (arith, len) in
      get_or-map-range_with_len byte 0 (length bytes) i i 0 inside (omega arith) ∙ ap (λ b. cond (b && leb kept (touched_before (is_covered ranges) i)) fill (get_or bytes i 0)) apart ∙ k.agree.each i apart)
