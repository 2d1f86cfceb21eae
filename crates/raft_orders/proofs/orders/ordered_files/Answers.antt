use denote.Param.Send.{sendable}
use Rattle.raft_memory.proofs.Sent.{memory_send, memory_sync}
use Rattle.raft_orders.proofs.Sent.{orders_send, orders_sync}
use Rattle.raft_orders.proofs.orders.ordered_files.Goals as goal

pub new-requires-2-send-D : goal.new-requires-2-send-D
new-requires-2-send-D c κs = search (sendable, orders_send) depth 20

pub new-requires-2-send-F : goal.new-requires-2-send-F
new-requires-2-send-F c κs = search (sendable, memory_send) depth 20

pub new-requires-2-sync-D : goal.new-requires-2-sync-D
new-requires-2-sync-D c κs = search (sendable, orders_sync) depth 20

pub new-requires-2-sync-F : goal.new-requires-2-sync-F
new-requires-2-sync-F c κs = search (sendable, memory_sync) depth 20
