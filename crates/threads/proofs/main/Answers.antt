use denote.Param.Send.{sendable}
use Rattle.raft_memory.proofs.Sent.{memory_send, memory_sync}
use Rattle.threads.proofs.main.Goals as goal

pub share-requires-send-F : goal.share-requires-send-F
share-requires-send-F c κs = search (sendable, memory_send) depth 20

pub share-requires-sync-F : goal.share-requires-sync-F
share-requires-sync-F c κs = search (sendable, memory_sync) depth 20
