use denote.Param.Send.{sendable}
use Rattle.raft_memory.proofs.Sent.{memory_send, memory_sync}
use Rattle.raft_shared_scenarios.proofs.threads.history_of.Goals as goal

pub finish-requires-send-F : goal.finish-requires-send-F
finish-requires-send-F g c κs = search (sendable, memory_send) depth 20

pub finish-requires-sync-F : goal.finish-requires-sync-F
finish-requires-sync-F g c κs = search (sendable, memory_send, memory_sync) depth 20
