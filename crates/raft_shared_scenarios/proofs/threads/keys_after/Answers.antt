use denote.Param.Send.{sendable}
use Rattle.raft_memory.proofs.Sent.{memory_send, memory_sync}
use Rattle.raft_shared_scenarios.proofs.threads.keys_after.Goals as goal

pub last_keys-requires-send-F : goal.last_keys-requires-send-F
last_keys-requires-send-F g c κs = search (sendable, memory_send) depth 20

pub last_keys-requires-sync-F : goal.last_keys-requires-sync-F
last_keys-requires-sync-F g c κs = search (sendable, memory_send, memory_sync) depth 20
