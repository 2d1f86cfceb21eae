use denote.Param.Send.{sendable}
use Rattle.raft_memory.proofs.Sent.{memory_send, memory_sync}
use Rattle.raft_disk.proofs.Sent.{folder_send, folder_sync, mirror_send, mirror_sync}
use Rattle.raft_inspect.proofs.folder_losses.FolderLosses.find.Goals as goal

pub find-requires-send-F : goal.find-requires-send-F
find-requires-send-F c κs = search (sendable, mirror_send, folder_send, memory_send) depth 20

pub find-requires-sync-F : goal.find-requires-sync-F
find-requires-sync-F c κs = search (sendable, mirror_sync, folder_sync, memory_sync) depth 20
