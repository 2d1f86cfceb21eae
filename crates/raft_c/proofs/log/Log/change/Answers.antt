use denote.Param.Send.{sendable}
use Rattle.raft_memory.proofs.Sent.{memory_send, memory_sync}
use Rattle.raft_disk.proofs.Sent.{mirror_send, mirror_sync}
use Rattle.raft_orders.proofs.Sent.{orders_send, orders_sync}
use Rattle.raft_c.proofs.log.Log.change.Goals as goal

pub change-code-requires-send-F : goal.change-code-requires-send-F
change-code-requires-send-F c κs = search (sendable, mirror_send, orders_send, memory_send) depth 20

pub change-code-requires-sync-F : goal.change-code-requires-sync-F
change-code-requires-sync-F c κs = search (sendable, mirror_sync, orders_sync, memory_sync) depth 20
