use denote.Param.Send.{sendable}
use Rattle.raft_memory.proofs.Sent.{memory_send, memory_sync}
use Rattle.raft_queue_scenarios.proofs.workers.works_in_memory.Goals as goal

pub works-requires-send-F : goal.works-requires-send-F
works-requires-send-F g c κs = search (sendable, memory_send) depth 20

pub works-requires-sync-F : goal.works-requires-sync-F
works-requires-sync-F g c κs = search (sendable, memory_send, memory_sync) depth 20
