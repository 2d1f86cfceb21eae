use denote.Param.Send.{sendable}
use Rattle.raft_memory.proofs.Sent.{memory_send, memory_sync}
use Rattle.raft_disk.proofs.Sent.{folder_send, folder_sync}
use Rattle.raft_disk.proofs.opening.mirror_of.Goals as goal

pub new-requires-2-send-D : goal.new-requires-2-send-D
new-requires-2-send-D c κs = search (sendable, folder_send) depth 20

pub new-requires-2-send-F : goal.new-requires-2-send-F
new-requires-2-send-F c κs = search (sendable, memory_send) depth 20

pub new-requires-2-sync-D : goal.new-requires-2-sync-D
new-requires-2-sync-D c κs = search (sendable, folder_sync) depth 20

pub new-requires-2-sync-F : goal.new-requires-2-sync-F
new-requires-2-sync-F c κs = search (sendable, memory_sync) depth 20
