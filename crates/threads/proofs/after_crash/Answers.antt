use denote.Param.Send.{sendable}
use Rattle.raft_memory.proofs.Sent.{memory_send, memory_sync}
use Rattle.threads.proofs.after_crash.Goals as goal

pub give_up-requires-send-F : goal.give_up-requires-send-F
give_up-requires-send-F c κs = search (sendable, memory_send) depth 20

pub give_up-requires-sync-F : goal.give_up-requires-sync-F
give_up-requires-sync-F c κs = search (sendable, memory_sync) depth 20

pub open_in_order-requires-send-F : goal.open_in_order-requires-send-F
open_in_order-requires-send-F c κs = search (sendable, memory_send) depth 20

pub open_in_order-requires-sync-F : goal.open_in_order-requires-sync-F
open_in_order-requires-sync-F c κs = search (sendable, memory_sync) depth 20
