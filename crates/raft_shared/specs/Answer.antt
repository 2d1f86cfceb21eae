-- The result of a ticket.
use Rattle.std.specs.Prelude.{◌≡◌, slice_get}
use mathlib.Core.List.{IsPrefix}
use Rattle.raft_shared.specs.declared.book.Naming.{Ghosts}
use Rattle.raft_shared.specs.declared.ticket.Ticket.{Ticket}
use Rattle.raft_shared.specs.declared.ticket.Durable.{Durable}

-- the witness is of the ticket's batch, at its place in the history
pub record Answers {J : Type 0} {n : Ghosts J} (ticket : Ticket J n) (durable : Durable J n)
    : Type 0 where
  pub number : durable.number ≡ ticket.number
  pub size : durable.size ≡ ticket.size
  pub begins : IsPrefix ticket.front durable.front
  pub same : slice_get durable.front durable.number ≡ slice_get ticket.front ticket.number
