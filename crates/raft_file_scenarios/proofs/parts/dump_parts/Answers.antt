use denote.Param.Send.{sendable}
use Rattle.raft_memory.proofs.Sent.{memory_send, memory_sync}
use Rattle.raft_file_scenarios.proofs.parts.dump_parts.Goals as goal

pub count_items-requires-send-F : goal.count_items-requires-send-F
count_items-requires-send-F c κs = search (sendable, memory_send) depth 20

pub count_items-requires-sync-F : goal.count_items-requires-sync-F
count_items-requires-sync-F c κs = search (sendable, memory_sync) depth 20
