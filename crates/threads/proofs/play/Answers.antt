use denote.Param.Send.{sendable}
use Rattle.raft_memory.proofs.Sent.{memory_send, memory_sync}
use Rattle.threads.proofs.play.Goals as goal

pub new-tickets-requires-send-F : goal.new-tickets-requires-send-F
new-tickets-requires-send-F g c κs = search (sendable, memory_send) depth 20

pub new-tickets-requires-sync-F : goal.new-tickets-requires-sync-F
new-tickets-requires-sync-F g c κs = search (sendable, memory_sync) depth 20

pub into_desk-requires-send-F : goal.into_desk-requires-send-F
into_desk-requires-send-F g c κs = search (sendable, memory_send) depth 20

pub into_desk-requires-sync-F : goal.into_desk-requires-sync-F
into_desk-requires-sync-F g c κs = search (sendable, memory_sync) depth 20
