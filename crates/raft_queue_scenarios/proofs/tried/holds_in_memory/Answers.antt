use denote.Param.Send.{sendable}
use Rattle.raft_memory.proofs.Sent.{memory_send, memory_sync}
use Rattle.raft_queue_scenarios.proofs.tried.holds_in_memory.Goals as goal

pub holds-requires-send-F : goal.holds-requires-send-F
holds-requires-send-F c κs = search (sendable, memory_send) depth 20

pub holds-requires-sync-F : goal.holds-requires-sync-F
holds-requires-sync-F c κs = search (sendable, memory_send, memory_sync) depth 20
