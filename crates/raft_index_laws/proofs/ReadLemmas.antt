-- Entries that were read in order have no greatest index.
use Rattle.std.proofs.Common.{◌≡◌, ℕ, ◌+◌, ◌<◌, ◌≤◌, ◌==◌, true, List, [], ◌∷◌, length, map, arith}
use Rattle.std.specs.List.{AllByRecursion as Each, list_all}
use Rattle.std.specs.Prelude.{◌^◌, ◌-◌, nat_lt}
use Rattle.std.proofs.lemmas.Bool.{and_parts}
use Rattle.std.proofs.lemmas.Bool.Decides.{nat_tests}
use Rattle.raft_records.specs.declared.entry_index.EntryPlace.{EntryPlace}
use Rattle.raft_records.specs.Item.{Entries, Clean, Compact, Put, Delete, Item}
use Rattle.raft_records.specs.PlacedItem.{EntriesAt, Plain, PlacedContent, PlacedItem, content_in, is_placed_in_order, item_in}
use Rattle.raft_records.specs.Places.{Blocks, entries_in}
use Rattle.raft_records.specs.Validity.{are_consecutive_from}
use Rattle.raft_recovery_laws.specs.Bounds.{AreItemsBelow, IsContentBelow}
use Rattle.raft_recovery_laws.specs.Recovered.{items_of}
use Rattle.raft_recovery_laws.proofs.EachLemmas.{each_append}
use Rattle.raft_tables.specs.Rewritten.{PlacedBatch, are_placed_in_order, batches_in}

lower : (a b : ℕ) → nat_lt a b ≡ true → a < b
lower a b is = grind (arith, nat_tests)

low_entries : (blocks : Blocks) (bound : ℕ) (es : List (ℕ × EntryPlace)) (k : ℕ) → are_consecutive_from k es ≡ true → k + length es ≤ bound → Each (λ e. e.0 < bound) (entries_in blocks es)
low_entries blocks bound [] k run low = tt
low_entries blocks bound (e ∷ es) k run low =
    let parts = and_parts (e.0 == k) (are_consecutive_from (k + 1) es) run in
    (let at = same_index e.0 k parts.0 in omega (arith, at, low), low_entries blocks bound es (k + 1) parts.1 (omega (arith, low)))
  where
    same_index : (a b : ℕ) → (a == b) ≡ true → a ≡ b
    same_index a b is = grind (arith, nat_tests)

content_low : (blocks : Blocks) (c : PlacedContent) → is_placed_in_order c ≡ true → IsContentBelow (2 ^ 64 - 1) (content_in blocks c)
content_low blocks (EntriesAt []) order = tt
content_low blocks (EntriesAt (e ∷ es)) order =
    let parts = and_parts (are_consecutive_from e.0 (e ∷ es)) (nat_lt (e.0 + length (e ∷ es)) (2 ^ 64)) order in
    let low = lower (e.0 + length (e ∷ es)) (2 ^ 64) parts.1 in
    low_entries blocks (2 ^ 64 - 1) (e ∷ es) e.0 parts.0 (omega (arith, low))
content_low blocks (Plain (Entries xs)) order = absurd (let clash = order in cc)
content_low blocks (Plain Clean) order = tt
content_low blocks (Plain (Compact index)) order = tt
content_low blocks (Plain (Put key value)) order = tt
content_low blocks (Plain (Delete key)) order = tt

pub placed_low : (blocks : Blocks) (items : List PlacedItem) → list_all (λ item. is_placed_in_order item.content) items ≡ true → AreItemsBelow (2 ^ 64 - 1) (map (item_in blocks) items)
placed_low blocks [] order = tt
placed_low blocks (i ∷ items) order =
    let parts = and_parts (is_placed_in_order i.content) (list_all (λ item. is_placed_in_order item.content) items) order in
    (content_low blocks i.content parts.0, placed_low blocks items parts.1)

pub batches_low : (blocks : Blocks) (batches : List PlacedBatch) → are_placed_in_order batches ≡ true → AreItemsBelow (2 ^ 64 - 1) (items_of (batches_in blocks batches))
batches_low blocks [] order = tt
batches_low blocks (b ∷ batches) order =
    let parts = and_parts (list_all (λ item. is_placed_in_order item.content) b.1) (are_placed_in_order batches) order in
    each_append (λ (i : Item). IsContentBelow (2 ^ 64 - 1) i.content) (map (item_in blocks) b.1) (items_of (batches_in blocks batches)) (placed_low blocks b.1 parts.0) (batches_low blocks batches parts.1)
