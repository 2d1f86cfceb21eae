use denote.Param.Send.{sendable}
use Rattle.raft_memory.proofs.Sent.{memory_send, memory_sync}
use Rattle.raft_disk.proofs.Sent.{folder_send, folder_sync}
use Rattle.raft_disk.proofs.opening.DiskFileSystem.check_whole.Goals as goal

pub disk-folder-requires-send-D : goal.disk-folder-requires-send-D
disk-folder-requires-send-D c κs = search (sendable, folder_send) depth 20

pub disk-folder-requires-send-F : goal.disk-folder-requires-send-F
disk-folder-requires-send-F c κs = search (sendable, memory_send) depth 20

pub disk-folder-requires-sync-D : goal.disk-folder-requires-sync-D
disk-folder-requires-sync-D c κs = search (sendable, folder_sync) depth 20

pub disk-folder-requires-sync-F : goal.disk-folder-requires-sync-F
disk-folder-requires-sync-F c κs = search (sendable, memory_sync) depth 20
