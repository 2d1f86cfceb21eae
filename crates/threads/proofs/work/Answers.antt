use denote.Param.Send.{sendable}
use Rattle.raft_memory.proofs.Sent.{memory_send, memory_sync}
use Rattle.threads.proofs.work.Goals as goal

pub write_synced-requires-send-F : goal.write_synced-requires-send-F
write_synced-requires-send-F g c κs = search (sendable, memory_send) depth 20

pub write_synced-requires-sync-F : goal.write_synced-requires-sync-F
write_synced-requires-sync-F g c κs = search (sendable, memory_sync) depth 20

pub get-requires-send-F : goal.get-requires-send-F
get-requires-send-F g c κs = search (sendable, memory_send) depth 20

pub get-requires-sync-F : goal.get-requires-sync-F
get-requires-sync-F g c κs = search (sendable, memory_sync) depth 20
