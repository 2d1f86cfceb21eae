use denote.Param.Send.{sendable}
use Rattle.raft_memory.proofs.Sent.{memory_send, memory_sync}
use Rattle.raft_disk.proofs.Sent.{folder_send, folder_sync, mirror_send, mirror_sync}
use Rattle.raft_commands.proofs.writing.change_by.Goals as goal

pub change_files-changed-requires-send-F : goal.change_files-changed-requires-send-F
change_files-changed-requires-send-F c κs = search (sendable, mirror_send, folder_send, memory_send) depth 20

pub change_files-changed-requires-sync-F : goal.change_files-changed-requires-sync-F
change_files-changed-requires-sync-F c κs = search (sendable, mirror_sync, folder_sync, memory_sync) depth 20
