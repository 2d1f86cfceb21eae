-- Those that share a sync may be shared by threads, and they, tickets and witnesses may go to another one.
use base.Before.{chain}
use base.Fml.{Lft}
use base.Shift.{Keyless}
use denote.RattleType.{RattleType}
use denote.Struct.Declared.{shape}
use denote.Param.Send.{IsSend, IsSync, AllSend, AllSync, sendable, recorded_send, recorded_sync, struct_send, struct_sync, view_send}
use mathlib.Core.List.{List, [], ◌∷◌, ◌++◌}
use Rattle.std.proofs.Crossing as items
use Rattle.logbook.specs.Kept.{rules}
use Rattle.logbook.specs.contracts.tokens.Seen as seen
use Rattle.logbook.specs.contracts.word.Word as word
use Rattle.logbook.specs.declared.tokens.Rule as rule
use Rattle.logbook.proofs.Fields.{beside_keyless, seen_keyless}
use Rattle.raft_env.specs.declared.env.FileSystem as files
use Rattle.raft_shared.specs.contracts.shared.Shared as shared
use Rattle.raft_shared.proofs.Crossing.{shared_parts}
use Rattle.raft_shared.specs.declared.book.Naming as naming
use Rattle.raft_shared.specs.contracts.book.Book as book
use Rattle.raft_shared.specs.contracts.book.Front as front
use Rattle.raft_shared.specs.contracts.desk.Desk as desk
use Rattle.raft_shared.specs.contracts.gate.Gate as gate
use Rattle.raft_shared.specs.contracts.ticket.Covered as covered
use Rattle.raft_shared.specs.contracts.ticket.Durable as durable
use Rattle.raft_shared.specs.contracts.ticket.Ticket as ticket
use Rattle.raft_shared.specs.contracts.tickets.Tickets as tickets

-- that one lifetime ends before another means the same in every thread
chain_keyless : (νs : List Lft) (κ α : Lft) → Keyless (chain νs κ α)
chain_keyless [] κ α = λ _. tt
chain_keyless (ν ∷ νs) κ α = ((λ q. tt), chain_keyless νs (ν ++ κ) α)

module _ (E A P : RattleType) (g : rule.Ghosts P.Denot E.Denot A.Denot) where
  seen_send : IsSend (seen.the_row E A P g)
  seen_send = record { owned = λ d vs. ((λ vss. (tt, ((λ uss. (tt, tt)), tt))), seen_keyless E.coded.code (rules g.holds g.shows g.keeps) d.book d.names d.log); leaving = λ k f vs. tt }

  word_send : IsSend (word.the_row E A P g)
  word_send = record { owned = λ d vs. ((λ _. tt), λ n. ((λ vss. (tt, ((tt, tt), ((λ uss. (tt, tt)), tt)))), beside_keyless E.coded.code g.hinted d.tracked d.key d.book n)); leaving = λ k d w. tt }

  word_sync : IsSync (word.the_row E A P g)
  word_sync = record { shared = λ d b o κ t. ((λ νs. chain_keyless νs κ t.0), ((λ _. tt), λ n. (tt, beside_keyless E.coded.code g.hinted d.tracked d.key d.book n))) }

module _ (J : RattleType) (n : naming.Ghosts J.Denot) where
  front_send : IsSend J → IsSend (front.the_row J n)
  front_send j = view_send (front.TheInside.the_row J n) _ _ _ _ (search (sendable, items.crosses, seen_send) depth 20)

  ticket_parts : IsSend J → AllSend (shape (ticket.the_type J n)).fields
  ticket_parts j = (front_send j, (search sendable, (search sendable, tt)))

  pub ticket_send : IsSend J → IsSend (ticket.the_row J n)
  ticket_send j = recorded_send _ _ _ (ticket.the_type J n).to_one (struct_send (shape (ticket.the_type J n)) (ticket_parts j))

  covered_parts : IsSend J → AllSend (shape (covered.the_type J n)).fields
  covered_parts j = (front_send j, (search sendable, tt))

  covered_send : IsSend J → IsSend (covered.the_row J n)
  covered_send j = recorded_send _ _ _ (covered.the_type J n).to_one (struct_send (shape (covered.the_type J n)) (covered_parts j))

  durable_parts : IsSend J → AllSend (shape (durable.the_type J n)).fields
  durable_parts j = (front_send j, (search sendable, (search sendable, (search sendable, tt))))

  pub durable_send : IsSend J → IsSend (durable.the_row J n)
  durable_send j = recorded_send _ _ _ (durable.the_type J n).to_one (struct_send (shape (durable.the_type J n)) (durable_parts j))

  gate_parts : IsSend J → AllSend (shape (gate.the_type J n)).fields
  gate_parts j = (search sendable, (search sendable, (search sendable, (search (sendable, covered_send) depth 20, tt))))

  gate_send : IsSend J → IsSend (gate.the_row J n)
  gate_send j = recorded_send _ _ _ (gate.the_type J n).to_one (struct_send (shape (gate.the_type J n)) (gate_parts j))

  book_parts : IsSync J → AllSync (shape (book.the_type J n)).fields
  book_parts j = (search (sendable, items.crosses, word_sync) depth 20, (search (sendable, items.crosses) depth 20, tt))

  book_sent : IsSend J → AllSend (shape (book.the_type J n)).fields
  book_sent j = (search (sendable, items.crosses, word_send) depth 20, (search (sendable, items.crosses) depth 20, tt))

module _ (F J H R W : RattleType) (g : files.Ghosts F.Denot H.Denot R.Denot W.Denot) (n : naming.Ghosts J.Denot) where
  desk_parts : IsSend F → IsSend W → IsSend J → AllSend (shape (desk.the_type F J H R W g n)).fields
  desk_parts f w j = (struct_send (shape (shared.the_type F H R W g)) (shared_parts F H R W g f w), (front_send J n j, (search (sendable, items.crosses) depth 20, tt)))

  desk_send : IsSend F → IsSend W → IsSend J → IsSend (desk.the_row F J H R W g n)
  desk_send f w j = recorded_send _ _ _ (desk.the_type F J H R W g n).to_one (struct_send (shape (desk.the_type F J H R W g n)) (desk_parts f w j))

  tickets_parts : IsSend F → IsSend W → IsSend J → IsSync J → AllSync (shape (tickets.the_type F J H R W g n)).fields
  tickets_parts f w j y =
      let desk = desk_send f w j in
      let gate = gate_send J n j in (
        struct_sync (shape (book.the_type J n)) (book_parts J n y),
        (search (sendable, items.crosses, desk) depth 20, (search (sendable, items.crosses, gate) depth 20, (search (sendable, items.crosses) depth 20, (search (sendable, items.crosses) depth 20, (search sendable, tt))))),
      )

  pub tickets_sync : IsSend F → IsSend W → IsSend J → IsSync J → IsSync (tickets.the_row F J H R W g n)
  tickets_sync f w j y = recorded_sync _ _ _ (tickets.the_type F J H R W g n).to_one (struct_sync (shape (tickets.the_type F J H R W g n)) (tickets_parts f w j y))

  tickets_sent : IsSend F → IsSend W → IsSend J → AllSend (shape (tickets.the_type F J H R W g n)).fields
  tickets_sent f w j =
      let desk = desk_send f w j in
      let gate = gate_send J n j in (
        struct_send (shape (book.the_type J n)) (book_sent J n j),
        (search (sendable, items.crosses, desk) depth 20, (search (sendable, items.crosses, gate) depth 20, (search (sendable, items.crosses) depth 20, (search (sendable, items.crosses) depth 20, (search sendable, tt))))),
      )

  pub tickets_send : IsSend F → IsSend W → IsSend J → IsSend (tickets.the_row F J H R W g n)
  tickets_send f w j = recorded_send _ _ _ (tickets.the_type F J H R W g n).to_one (struct_send (shape (tickets.the_type F J H R W g n)) (tickets_sent f w j))
