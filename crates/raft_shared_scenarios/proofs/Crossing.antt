-- A writer of a file in memory may go to another thread.
use denote.Param.Send.{IsSend, sendable}
use Rattle.std.proofs.Crossing as items
use Rattle.raft_memory.specs.contracts.handles.MemoryWriter as writer

pub writer_send : IsSend writer.the_row
writer_send = search (sendable, items.crosses) depth 20
