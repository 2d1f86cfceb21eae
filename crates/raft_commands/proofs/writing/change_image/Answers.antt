use denote.Param.Send.{sendable}
use Rattle.raft_memory.proofs.Sent.{memory_send, memory_sync}
use Rattle.raft_commands.proofs.writing.change_image.Goals as goal

pub change_files-requires-send-F : goal.change_files-requires-send-F
change_files-requires-send-F c κs = search (sendable, memory_send) depth 20

pub change_files-requires-sync-F : goal.change_files-requires-sync-F
change_files-requires-sync-F c κs = search (sendable, memory_sync) depth 20
