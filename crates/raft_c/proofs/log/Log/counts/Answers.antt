use denote.Param.Send.{sendable}
use Rattle.raft_memory.proofs.Sent.{memory_send, memory_sync}
use Rattle.raft_disk.proofs.Sent.{mirror_send, mirror_sync}
use Rattle.raft_orders.proofs.Sent.{orders_send, orders_sync}
use Rattle.raft_c.proofs.log.Log.counts.Goals as goal

pub index_memory-requires-send-F : goal.index_memory-requires-send-F
index_memory-requires-send-F c κs = search (sendable, mirror_send, orders_send, memory_send) depth 20

pub index_memory-requires-sync-F : goal.index_memory-requires-sync-F
index_memory-requires-sync-F c κs = search (sendable, mirror_sync, orders_sync, memory_sync) depth 20

pub cache_counts-requires-send-F : goal.cache_counts-requires-send-F
cache_counts-requires-send-F c κs = search (sendable, mirror_send, orders_send, memory_send) depth 20

pub cache_counts-requires-sync-F : goal.cache_counts-requires-sync-F
cache_counts-requires-sync-F c κs = search (sendable, mirror_sync, orders_sync, memory_sync) depth 20
