use denote.Param.Send.{sendable}
use Rattle.raft_memory.proofs.Sent.{memory_send, memory_sync}
use Rattle.raft_sweeps.proofs.stops.recycling_may_stop_at_each_change.Goals as goal

pub wrong_stop-requires-send-F : goal.wrong_stop-requires-send-F
wrong_stop-requires-send-F c κs = search (sendable, memory_send) depth 20

pub wrong_stop-requires-sync-F : goal.wrong_stop-requires-sync-F
wrong_stop-requires-sync-F c κs = search (sendable, memory_send, memory_sync) depth 20
