use denote.Param.Send.{sendable}
use Rattle.raft_memory.proofs.Sent.{memory_send, memory_sync}
use Rattle.raft_disk.proofs.Sent.{folder_send, folder_sync, mirror_send, mirror_sync}
use Rattle.raft_engine.proofs.stats.Stats.of.Goals as goal

pub file_system-requires-send-F : goal.file_system-requires-send-F
file_system-requires-send-F c κs = search (sendable, mirror_send, folder_send, memory_send) depth 20

pub file_system-requires-sync-F : goal.file_system-requires-sync-F
file_system-requires-sync-F c κs = search (sendable, mirror_sync, folder_sync, memory_sync) depth 20

pub cache_counts-requires-send-F : goal.cache_counts-requires-send-F
cache_counts-requires-send-F c κs = search (sendable, mirror_send, folder_send, memory_send) depth 20

pub cache_counts-requires-sync-F : goal.cache_counts-requires-sync-F
cache_counts-requires-sync-F c κs = search (sendable, mirror_sync, folder_sync, memory_sync) depth 20

pub index_memory-requires-send-F : goal.index_memory-requires-send-F
index_memory-requires-send-F c κs = search (sendable, mirror_send, folder_send, memory_send) depth 20

pub index_memory-requires-sync-F : goal.index_memory-requires-sync-F
index_memory-requires-sync-F c κs = search (sendable, mirror_sync, folder_sync, memory_sync) depth 20
