use denote.Param.Send.{sendable}
use Rattle.raft_memory.proofs.Sent.{memory_send, memory_sync}
use Rattle.raft_disk.proofs.Sent.{folder_send, folder_sync}
use Rattle.raft_disk.proofs.opening.DiskFileSystem.counts.Goals as goal

pub disk-requires-send-D : goal.disk-requires-send-D
disk-requires-send-D c κs = search (sendable, folder_send) depth 20

pub disk-requires-send-F : goal.disk-requires-send-F
disk-requires-send-F c κs = search (sendable, memory_send) depth 20

pub disk-requires-sync-D : goal.disk-requires-sync-D
disk-requires-sync-D c κs = search (sendable, folder_sync) depth 20

pub disk-requires-sync-F : goal.disk-requires-sync-F
disk-requires-sync-F c κs = search (sendable, memory_sync) depth 20
