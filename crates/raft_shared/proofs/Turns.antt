-- A write, and then a wait for its ticket.
use Rattle.std.proofs.Common.{◌≡◌, ◌∙◌, inr, false, [], ◌∷◌, ◌++◌, Result, Ok, Err, sym}
use Rattle.std.specs.Prelude.{IfErr, IfOk, OnErr, OnOk}
use Rattle.raft_base.specs.declared.errors.Fault.{Fault}
use Rattle.raft_records.specs.Item.{Batch}
use Rattle.raft_shared.specs.History.{Done, Size, Sync, Write}
use Rattle.raft_shared.specs.Shared.{receipts_of}
use Rattle.raft_shared.specs.Words.{reason_of}
use Rattle.raft_shared.specs.declared.seat.Seat.{Seat}
use Rattle.raft_shared.specs.Answer.{Answers}
use Rattle.raft_shared.specs.TicketCalls.{FailsAs, FailsInTurn, IsToldAt, IsToldInTurn, IsToldNothing, KeepsRefused, MayBeToldSync}
use Rattle.raft_shared.specs.declared.book.Naming.{Ghosts}
use Rattle.raft_shared.specs.declared.ticket.Durable.{Durable}
use Rattle.raft_shared.specs.declared.ticket.Ticket.{Ticket}
use Rattle.raft_shared.proofs.Telling.{turn_heard, turn_keeps}

module _ {J : Type 0} {n : Ghosts J} (items rest : Batch) (old mid new : Seat) (ticket : Ticket J n) (told : IsToldAt ticket.number (Write items false) (Size (Ok ticket.size)) old mid) where
  pub told_in_turn : (result : Result (Durable J n) Fault) → IfOk result (Answers ticket) → OnOk result (MayBeToldSync mid new) → IfOk result (λ durable. IsToldInTurn durable.number items durable.size old new)
  told_in_turn (Ok durable) answers maybe =
      (mid, told ∙ (λ i. receipts_of old ++ record { number = sym answers.number i; asked = Write items false; answer = Size (Ok (sym answers.size i)) } ∷ []), maybe)
  told_in_turn (Err e) answers maybe = tt

  abbrev FailsNext : Fault → Type 0
  FailsNext e = FailsAs Sync (Done (Err (reason_of e))) mid new e

  pub fails_in_turn : (result : Result (Durable J n) Fault) → rest ≡ [] → IfErr result FailsNext → IfErr result (FailsInTurn items rest old new)
  fails_in_turn (Ok durable) empty fails = tt
  fails_in_turn (Err e) empty fails = inr (mid, ticket.size, (ticket.number, told), empty, fails)

  pub unheard_in_turn : {B : Type 0} (before after : B) (result : Result (Durable J n) Fault) → IfErr result FailsNext → OnErr result (IsToldNothing old new → after ≡ before)
  unheard_in_turn before after (Ok durable) fails = tt
  unheard_in_turn before after (Err e) fails = λ nothing. absurd (turn_heard items old mid new ticket.number ticket.size told _ _ e fails nothing)

  pub kept_in_turn : (result : Result (Durable J n) Fault) → IfErr result FailsNext → OnErr result (KeepsRefused items rest old new)
  kept_in_turn (Ok durable) fails = tt
  kept_in_turn (Err e) fails = turn_keeps items old mid new ticket.number ticket.size told _ _ e fails rest
