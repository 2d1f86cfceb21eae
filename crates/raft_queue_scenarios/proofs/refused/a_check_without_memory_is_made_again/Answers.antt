use denote.Param.Send.{sendable}
use Rattle.raft_memory.proofs.Sent.{memory_send, memory_sync}
use Rattle.raft_queue_scenarios.proofs.refused.a_check_without_memory_is_made_again.Goals as goal

pub is_found-requires-send-F : goal.is_found-requires-send-F
is_found-requires-send-F c κs = search (sendable, memory_send) depth 20

pub is_found-requires-sync-F : goal.is_found-requires-sync-F
is_found-requires-sync-F c κs = search (sendable, memory_send, memory_sync) depth 20
