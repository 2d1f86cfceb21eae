-- A call that was recorded, and the front that ends with it.
use Rattle.std.proofs.Common.{◌≡◌, ◌∙◌, ℕ, false, List, [], ◌∷◌, ◌++◌, length, take, Option, Some, None, Result, Ok, Err, slice_get, sym, ap, arith, length-append, subst}
use Rattle.std.specs.Prelude.{IfSome, IfNone}
use Rattle.raft_env.specs.declared.env.FileSystem.{Ghosts}
use Rattle.raft_base.specs.declared.errors.Fault.{Fault}
use Rattle.raft_records.specs.Item.{Batch}
use Rattle.raft_log_engine.specs.Calls.{IsCallersWrite}
use Rattle.raft_shared.specs.History.{Answer, Asked, Event, Size}
use Rattle.raft_shared.specs.Shared.{HasRecorded, RecordsWrite, engine_of, history_of, receipts_of}
use Rattle.raft_shared.specs.Words.{answer_by, told_by}
use Rattle.raft_shared.specs.declared.call.Receipt.{Receipt}
use Rattle.raft_shared.specs.declared.seat.Seat.{Seat}
use Rattle.raft_shared.specs.declared.shared.Shared.{Shared}
use Rattle.raft_shared.specs.TicketCalls.{IsTold, IsToldAt, IsToldNothing, event_by}
use Rattle.raft_shared.proofs.Fronts.{begins_itself, begins_still, begins_whole, get_last}

module _ {F H R W : Type 0} {g : Ghosts F H R W} (asked : Asked) (answer : Answer) (old new : Shared F H R W g) (seat seat' : Seat) (receipt : Receipt) (h : HasRecorded asked answer old new seat seat' receipt) where
  pub asked_is : (told_by receipt).asked ≡ asked
  asked_is = ap (λ t. t.asked) h.receipt_is

  -- the seat has the receipt, with this answer
  pub is_told_at : (said : Answer) → (told_by receipt).answer ≡ said → IsToldAt receipt.number asked said seat seat'
  is_told_at said is = h.receipts ∙ ap (λ t. receipts_of seat ++ t ∷ []) (λ i. record { number = receipt.number; asked = asked_is i; answer = is i })

  pub is_told : (said : Answer) → (told_by receipt).answer ≡ said → IsTold asked said seat seat'
  is_told said is = (receipt.number, is_told_at said is)

  -- .. and was told something
  pub is_heard : IsToldNothing seat seat' → ⊥
  is_heard nothing =
      let same : length (receipts_of seat) ≡ length (receipts_of seat ++ told_by receipt ∷ []) = ap length (sym nothing ∙ h.receipts) in
      absurd (omega (arith, same, length-append (receipts_of seat) (told_by receipt ∷ [])))

  event_is : event_by seat.number receipt ≡ record { seat = seat.number; asked = asked; answer = answer }
  event_is = ap (λ t. record { seat = seat.number; asked = t.asked; answer = t.answer }) h.receipt_is

  module _ (front : List Event) (begun : take (length front) (history_of old) ≡ front) where
    still_begins : take (length front) (history_of new) ≡ front
    still_begins = ap (take (length front)) h.history ∙ begins_still front (history_of old) (_ ∷ []) begun

    module _ (longer : List Event) (at : length front ≡ receipt.number) (is : longer ≡ front ++ event_by seat.number receipt ∷ []) where
      is_history : longer ≡ history_of new
      is_history =
          let whole : front ≡ history_of old = begins_whole front (history_of old) begun (at ∙ ap (λ t. t.number) h.receipt_is) in
          is ∙ (ap (λ x. x ++ event_by seat.number receipt ∷ []) whole ∙ (ap (λ e. history_of old ++ e ∷ []) event_is ∙ sym h.history))

      ends_there : slice_get longer receipt.number ≡ Some (event_by seat.number receipt)
      ends_there = ap (λ l. slice_get l receipt.number) is ∙ (ap (slice_get (front ++ event_by seat.number receipt ∷ [])) (sym at) ∙ get_last front (event_by seat.number receipt))

      is_begun : take (length longer) (history_of new) ≡ longer
      is_begun = ap (λ (l : List Event). take (length l) (history_of new)) is_history ∙ (begins_itself (history_of new) ∙ sym is_history)

    -- what the front is after the call, where it ends with that
    abbrev Ends : List Event → List Event → Type 0
    Ends after longer = (after ≡ longer) × (length front ≡ receipt.number) × (longer ≡ front ++ event_by seat.number receipt ∷ [])

    pub front_begins : (o : Option (List Event)) (after : List Event) → IfSome o (Ends after) → IfNone o (after ≡ front) → take (length after) (history_of new) ≡ after
    front_begins (Some l) after ends same = subst (λ (x : List Event). take (length x) (history_of new) ≡ x) (sym ends.0) (is_begun l ends.1 ends.2)
    front_begins None after ends same = subst (λ (x : List Event). take (length x) (history_of new) ≡ x) (sym same) still_begins

    pub front_ends : (o : Option (List Event)) (after : List Event) → IfSome o (Ends after) → IfSome o (λ l. (l ≡ history_of new) × (slice_get l receipt.number ≡ Some (event_by seat.number receipt)))
    front_ends (Some l) after ends = (is_history l ends.1 ends.2, ends_there l ends.1 ends.2)
    front_ends None after ends = ends

-- where nothing was recorded nothing changed
pub begins_so : (old new front : List Event) → new ≡ old → take (length front) old ≡ front → take (length front) new ≡ front
begins_so old new front same begun = ap (take (length front)) same ∙ begun

-- what an accepted write leaves of its batch
pub leaves_empty : {F H R W : Type 0} {g : Ghosts F H R W} (items rest : Batch) (old new : Shared F H R W g) (seat seat' : Seat) (receipt : Receipt) (size : ℕ) → RecordsWrite items rest false old new seat seat' receipt → (told_by receipt).answer ≡ Size (Ok size)
    → rest ≡ []
leaves_empty items rest old new seat seat' receipt size r is = at r.result r.write (sym (ap (λ t. t.answer) r.recorded.receipt_is) ∙ is)
  where
    at : (result : Result ℕ Fault) → IsCallersWrite items rest false (engine_of old) (engine_of new) result → Size (answer_by (λ n. n) result) ≡ Size (Ok size) → rest ≡ []
    at (Ok n) w e = w.call.ok.emptied
    at (Err f) w e = absurd (cc e)
