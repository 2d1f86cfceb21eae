use denote.Param.Send.{sendable}
use Rattle.raft_memory.proofs.Sent.{memory_send, memory_sync}
use Rattle.raft_shared_scenarios.proofs.threads.history.Goals as goal

pub share-requires-send-F : goal.share-requires-send-F
share-requires-send-F g c κs = search (sendable, memory_send) depth 20

pub share-requires-sync-F : goal.share-requires-sync-F
share-requires-sync-F g c κs = search (sendable, memory_send, memory_sync) depth 20
