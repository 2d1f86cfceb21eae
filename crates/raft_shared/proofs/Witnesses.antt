-- What stands in a beginning of the history stands in a longer one.
use Rattle.std.proofs.Common.{◌≡◌, ◌∙◌, ℕ, Bool, true, false, List, Option, Some, None, Ok, slice_get, refl, sym, ap, true≢false}
use mathlib.Core.List.{IsPrefix}
use Rattle.raft_records.specs.Item.{Batch}
use Rattle.raft_shared.specs.History.{Done, Event, Size, Sync, Write}
use Rattle.raft_shared.specs.Words.{told_by}
use Rattle.raft_shared.specs.declared.call.Receipt.{Receipt}
use Rattle.raft_shared.specs.TicketCalls.{IsWrittenAt, event_by, is_sync, is_sync_at, is_write, is_write_at}
use Rattle.raft_shared.proofs.Fronts.{prefix_get}

module _ (xs ys : List Event) (k : ℕ) (p : IsPrefix xs ys) where
  -- at a place of which something is known
  stays : (f : Option Event → Bool) → f None ≡ false → f (slice_get xs k) ≡ true → slice_get ys k ≡ slice_get xs k
  stays f none is = at (slice_get xs k) refl is
    where
      at : (o : Option Event) → slice_get xs k ≡ o → f o ≡ true → slice_get ys k ≡ slice_get xs k
      at (Some x) found is = prefix_get xs ys k x p found ∙ sym found
      at None found is = absurd (true≢false (sym is ∙ none))

  pub write_stays : is_write_at k xs ≡ true → slice_get ys k ≡ slice_get xs k
  write_stays = stays is_write refl

  pub is_write_still : is_write_at k xs ≡ true → is_write_at k ys ≡ true
  is_write_still is = ap is_write (write_stays is) ∙ is

  pub is_sync_still : is_sync_at k xs ≡ true → is_sync_at k ys ≡ true
  is_sync_still is = ap is_sync (stays is_sync refl is) ∙ is

-- a receipt that the front has
module _ (seat : ℕ) (receipt : Receipt) (front : List Event) (has : slice_get front receipt.number ≡ Some (event_by seat receipt)) where
  pub write_there : (batch : Batch) (size : ℕ) → (told_by receipt).asked ≡ Write batch false → (told_by receipt).answer ≡ Size (Ok size) → IsWrittenAt receipt.number seat batch size front
  write_there batch size asked answer = has ∙ (λ i. Some (record { seat = seat; asked = asked i; answer = answer i }))

  pub is_write_there : (batch : Batch) (size : ℕ) → (told_by receipt).asked ≡ Write batch false → (told_by receipt).answer ≡ Size (Ok size) → is_write_at receipt.number front ≡ true
  is_write_there batch size asked answer = ap is_write (write_there batch size asked answer)

  pub is_sync_there : (told_by receipt).asked ≡ Sync → (told_by receipt).answer ≡ Done (Ok tt) → is_sync_at receipt.number front ≡ true
  is_sync_there asked answer = ap is_sync (has ∙ (λ i. Some (record { seat = seat; asked = asked i; answer = answer i })))
