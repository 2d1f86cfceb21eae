use denote.Param.Send.{sendable}
use Rattle.raft_memory.proofs.Sent.{memory_send, memory_sync}
use Rattle.raft_queue_scenarios.proofs.checks.is_found_in_memory.Goals as goal

pub stores_all-requires-send-F : goal.stores_all-requires-send-F
stores_all-requires-send-F c κs = search (sendable, memory_send) depth 20

pub stores_all-requires-sync-F : goal.stores_all-requires-sync-F
stores_all-requires-sync-F c κs = search (sendable, memory_send, memory_sync) depth 20
