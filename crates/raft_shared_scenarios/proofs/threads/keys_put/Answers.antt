use denote.Param.Send.{sendable}
use Rattle.raft_memory.proofs.Sent.{memory_send, memory_sync}
use Rattle.raft_shared_scenarios.proofs.threads.keys_put.Goals as goal

pub open-requires-send-F : goal.open-requires-send-F
open-requires-send-F g c κs = search (sendable, memory_send) depth 20

pub open-requires-sync-F : goal.open-requires-sync-F
open-requires-sync-F g c κs = search (sendable, memory_send, memory_sync) depth 20
