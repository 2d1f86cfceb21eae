use denote.Param.Send.{sendable}
use Rattle.raft_memory.proofs.Sent.{memory_send, memory_sync}
use Rattle.raft_disk.proofs.Sent.{folder_send, folder_sync, mirror_send, mirror_sync}
use Rattle.raft_offline.proofs.forks.copy_or_tell.Goals as goal

pub copy_all-copied-requires-send-F : goal.copy_all-copied-requires-send-F
copy_all-copied-requires-send-F c κs = search (sendable, mirror_send, folder_send, memory_send) depth 20

pub copy_all-copied-requires-sync-F : goal.copy_all-copied-requires-sync-F
copy_all-copied-requires-sync-F c κs = search (sendable, mirror_sync, folder_sync, memory_sync) depth 20
