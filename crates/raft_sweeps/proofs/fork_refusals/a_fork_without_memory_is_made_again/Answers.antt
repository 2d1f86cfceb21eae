use denote.Param.Send.{sendable}
use Rattle.raft_memory.proofs.Sent.{memory_send, memory_sync}
use Rattle.raft_sweeps.proofs.fork_refusals.a_fork_without_memory_is_made_again.Goals as goal

pub is_made-requires-send-F : goal.is_made-requires-send-F
is_made-requires-send-F c κs = search (sendable, memory_send) depth 20

pub is_made-requires-sync-F : goal.is_made-requires-sync-F
is_made-requires-sync-F c κs = search (sendable, memory_send, memory_sync) depth 20
