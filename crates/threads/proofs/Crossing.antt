-- What may go to another thread: tickets of an engine in memory, and a closure of four captures that has them.
use denote.RattleType.{RattleType}
use denote.Struct.Declared.{shape}
use denote.Struct.Tuple.{TupleAt, type_at}
use denote.Param.Send.{IsSend, IsSync, sendable, recorded_send, struct_send}
use mathlib.Core.List.{[], ◌∷◌}
use mir.Syntax.{Sym}
use Rattle.std.proofs.Crossing as items
use Rattle.std.specs.contracts.sync.Arc as Arc
use Rattle.std.specs.contracts.alloc.Global as Heap
use Rattle.std.specs.contracts.impls.GlobalAllocator.TheImpl.{ghosts}
use Rattle.raft_memory.proofs.Sent.{memory_send}
use Rattle.raft_memory.specs.contracts.calls.MemoryFileSystemFileSystem.TheImpl as files
use Rattle.raft_memory.specs.contracts.handles.MemoryHandle as handle
use Rattle.raft_memory.specs.contracts.handles.MemoryReader as reader
use Rattle.raft_memory.specs.contracts.handles.MemoryWriter as writer
use Rattle.raft_memory.specs.contracts.memory.MemoryFileSystem as fs
use Rattle.raft_shared.specs.declared.book.Naming as naming
use Rattle.raft_shared.specs.contracts.tickets.Tickets as tickets
use Rattle.raft_shared.proofs.TicketsCrossing.{tickets_send, tickets_sync}

writer_send : IsSend writer.the_row
writer_send = search (sendable, items.crosses) depth 20

module _ (J : RattleType) (n : naming.Ghosts J.Denot) where
  abbrev pub tickets_row : RattleType
  tickets_row = tickets.the_row fs.the_row J handle.the_row reader.the_row writer.the_row files.ghosts n

  pub shared_send : IsSend J → IsSync J → IsSend (Arc.the_row tickets_row Heap.the_row ghosts)
  shared_send j y = items.Arc-send tickets_row (tickets_send _ _ _ _ _ _ _ memory_send writer_send j) (tickets_sync _ _ _ _ _ _ _ memory_send writer_send j y)

pub closure_send : {name : Sym} {A B C D : RattleType} → IsSend A → IsSend B → IsSend C → IsSend D → IsSend (TupleAt name (A ∷ B ∷ C ∷ D ∷ []))
closure_send {name} {A} {B} {C} {D} a b c d = let T = type_at name (A ∷ B ∷ C ∷ D ∷ []) in recorded_send _ _ _ T.to_one (struct_send (shape T) (a, (b, (c, (d, tt)))))
