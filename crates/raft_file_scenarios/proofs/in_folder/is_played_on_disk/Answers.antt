use denote.Param.Send.{sendable}
use Rattle.raft_memory.proofs.Sent.{memory_send, memory_sync}
use Rattle.raft_disk.proofs.Sent.{folder_send, folder_sync, mirror_send, mirror_sync}
use Rattle.raft_file_scenarios.proofs.in_folder.is_played_on_disk.Goals as goal

pub is_played-requires-send-F : goal.is_played-requires-send-F
is_played-requires-send-F c κs = search (sendable, mirror_send, folder_send, memory_send) depth 20

pub is_played-requires-sync-F : goal.is_played-requires-sync-F
is_played-requires-sync-F c κs = search (sendable, mirror_sync, folder_sync, memory_sync) depth 20
