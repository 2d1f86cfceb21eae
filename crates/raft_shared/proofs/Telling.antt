-- What a refused write leaves of its batch, and what a seat is told of a write and then of a sync.
use Rattle.std.proofs.Common.{◌≡◌, ◌∙◌, inl, inr, ℕ, Bool, true, false, List, [], ◌∷◌, ◌++◌, length, Result, Ok, Err, arith, append_assoc, length-append, refl, sym, ap}
use Rattle.std.specs.Prelude.{OnErr}
use Rattle.std.proofs.lemmas.Bool.{false≢true}
use Rattle.std.proofs.lemmas.List.{append-nil, append_cancel_left}
use Rattle.raft_base.specs.declared.errors.Fault.{Fault}
use Rattle.raft_base.specs.declared.errors.Fault.TheVariants as fault
use Rattle.raft_config.specs.Folders.{Folders}
use Rattle.raft_env.specs.Refusal.{Refusals}
use Rattle.raft_env.specs.declared.env.FileSystem.{Ghosts}
use Rattle.raft_pipes.specs.PipeState.{PipeState}
use Rattle.raft_records.specs.Contents.{Contents}
use Rattle.raft_records.specs.Item.{Batch}
use Rattle.raft_log_engine.specs.Calls.{IsCallersWrite}
use Rattle.raft_log_engine.specs.Cause.{IsWriteRefusal}
use Rattle.raft_log_engine.specs.Engine.{contents_of, folders_of, has_failed, queue_of, refusals_of}
use Rattle.raft_log_engine.specs.declared.engine.Engine.{Engine}
use Rattle.raft_shared.specs.History.{Answer, Asked, Size, Write}
use Rattle.raft_shared.specs.Shared.{RecordsWrite, receipts_of}
use Rattle.raft_shared.specs.Words.{Told, answer_by, reason_of, told_by, without_path}
use Rattle.raft_shared.specs.declared.call.Receipt.{Receipt}
use Rattle.raft_shared.specs.declared.seat.Seat.{Seat}
use Rattle.raft_shared.specs.declared.shared.Shared.{Shared}
use Rattle.raft_shared.specs.TicketCalls.{FailsAs, IsToldAt, IsToldNothing, KeepsRefused, is_kept_after}

-- after such a refusal an engine stands that stood before
stands : (folders : Folders) (p : PipeState) (m : Contents) (items : Batch) (fails : Bool) (old new : Refusals) (e : Fault) → IsWriteRefusal folders p m items fails old new e → is_kept_after (Size (Err (without_path (reason_of e)))) ≡ true → fails ≡ false
stands folders p m items fails old new fault.Gap cause is = cause.1
stands folders p m items fails old new fault.Range cause is = cause.1
stands folders p m items fails old new fault.TryAgain cause is = cause.2
stands folders p m items fails old new (fault.InvalidArgument text) cause is = cause.1
stands folders p m items fails old new (fault.Io kind text) cause is = absurd (false≢true is)
stands folders p m items fails old new fault.Memory cause is = absurd (false≢true is)
stands folders p m items fails old new fault.Corruption cause is = absurd cause.1
stands folders p m items fails old new fault.EntryCompacted cause is = absurd cause.1
stands folders p m items fails old new fault.EntryNotFound cause is = absurd cause.1
stands folders p m items fails old new fault.WrongIndex cause is = absurd cause.1
stands folders p m items fails old new fault.Parse cause is = absurd cause.1
stands folders p m items fails old new fault.Failed cause is = absurd cause.1
stands folders p m items fails old new fault.Lz4 cause is = absurd cause.1
stands folders p m items fails old new fault.FileOutOfRange cause is = absurd cause.1
stands folders p m items fails old new fault.NotRecovered cause is = absurd cause.1
stands folders p m items fails old new fault.TrailFull cause is = absurd cause.1
stands folders p m items fails old new fault.Layer cause is = absurd cause.1
stands folders p m items fails old new fault.StaleNumber cause is = absurd cause.1

module _ {F H R W : Type 0} {g : Ghosts F H R W} where
  -- .. and the batch has its items
  items_kept : (items rest : Batch) (old new : Engine F H R W g) (result : Result ℕ Fault) → IsCallersWrite items rest false old new result → is_kept_after (Size (answer_by (λ n. n) result)) ≡ true → rest ≡ items
  items_kept items rest old new (Ok size) w is = absurd (false≢true is)
  items_kept items rest old new (Err e) w is = at (has_failed old) refl
    where
      at : (was : Bool) → has_failed old ≡ was → rest ≡ items
      at true failed = (w.call.unchanged failed).1
      at false stood = (w.call.err (stands (folders_of old) (queue_of new) (contents_of old) items (has_failed new) (refusals_of old) (refusals_of new) e (w.call.cause stood) is)).items_are

  pub keeps_refused : (items rest : Batch) (old new : Shared F H R W g) (seat seat' : Seat) (receipt : Receipt) → RecordsWrite items rest false old new seat seat' receipt → KeepsRefused items rest seat seat'
  keeps_refused items rest old new seat seat' receipt r said (number, told) is =
      let both : told_by receipt ∷ [] ≡ record { number = number; asked = Write items false; answer = said } ∷ [] = append_cancel_left (receipts_of seat) _ _ (sym r.recorded.receipts ∙ told) in
      let one : told_by receipt ≡ record { number = number; asked = Write items false; answer = said } = cc both in
      let answer : said ≡ Size (answer_by (λ n. n) r.result) = ap (λ (t : Told). t.answer) (sym one ∙ r.recorded.receipt_is) in
      items_kept items rest _ _ r.result r.write (ap is_kept_after (sym answer) ∙ is)

pub on_err : {T E : Type 0} (r : Result T E) (P : Type 0) → P → OnErr r P
on_err (Ok x) P p = tt
on_err (Err e) P p = p

-- where the items are as before nothing else matters
pub keeps_same : (items rest : Batch) (seat seat' : Seat) → rest ≡ items → KeepsRefused items rest seat seat'
keeps_same items rest seat seat' same said told is = same

-- what a seat is told of a call that failed
later_of : (mid new : Seat) (asked : Asked) (answer : Answer) (e : Fault) → FailsAs asked answer mid new e → (later : List Told) × (receipts_of new ≡ receipts_of mid ++ later)
later_of mid new asked answer e (inl (why, same)) = ([], same ∙ sym (append-nil (receipts_of mid)))
later_of mid new asked answer e (inr (inl (number, told))) = (record { number = number; asked = asked; answer = answer } ∷ [], told)
later_of mid new asked answer e (inr (inr (layer, astray))) = (record { number = astray.1.0; asked = asked; answer = astray.0 } ∷ [], astray.1.1)

-- a write that was accepted, and then a call that failed
module _ (items : Batch) (old mid new : Seat) (number size : ℕ) (told : IsToldAt number (Write items false) (Size (Ok size)) old mid) (asked : Asked) (answer : Answer) (e : Fault) (fails : FailsAs asked answer mid new e) where
  abbrev first : Told
  first = record { number = number; asked = Write items false; answer = Size (Ok size) }

  in_turn : (later : List Told) → receipts_of new ≡ receipts_of mid ++ later → receipts_of new ≡ receipts_of old ++ (first ∷ later)
  in_turn later grown = grown ∙ (ap (λ (rs : List Told). rs ++ later) told ∙ append_assoc (receipts_of old) (first ∷ []) later)

  pub turn_heard : IsToldNothing old new → ⊥
  turn_heard nothing =
      let more = later_of mid new asked answer e fails in
      let same : length (receipts_of old) ≡ length (receipts_of old ++ (first ∷ more.0)) = ap length (sym nothing ∙ in_turn more.0 more.1) in
      absurd (omega (arith, same, length-append (receipts_of old) (first ∷ more.0)))

  pub turn_keeps : (rest : Batch) → KeepsRefused items rest old new
  turn_keeps rest said (place, other) is =
      let more = later_of mid new asked answer e fails in
      let both : first ∷ more.0 ≡ record { number = place; asked = Write items false; answer = said } ∷ [] = append_cancel_left (receipts_of old) _ _ (sym (in_turn more.0 more.1) ∙ other) in
      let one : first ≡ record { number = place; asked = Write items false; answer = said } = cc both in
      absurd (false≢true (ap (λ (t : Told). is_kept_after t.answer) one ∙ is))
