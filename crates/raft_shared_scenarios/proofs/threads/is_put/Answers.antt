use denote.Param.Send.{sendable}
use Rattle.raft_memory.proofs.Sent.{memory_send, memory_sync}
use Rattle.raft_shared_scenarios.proofs.threads.is_put.Goals as goal

pub write-requires-send-F : goal.write-requires-send-F
write-requires-send-F g c κs = search (sendable, memory_send) depth 20

pub write-requires-sync-F : goal.write-requires-sync-F
write-requires-sync-F g c κs = search (sendable, memory_send, memory_sync) depth 20
