use denote.Param.Send.{sendable}
use Rattle.raft_memory.proofs.Sent.{memory_send, memory_sync}
use Rattle.raft_file_scenarios.proofs.refused.a_dump_without_memory_goes_on.Goals as goal

pub is_given-requires-send-F : goal.is_given-requires-send-F
is_given-requires-send-F c κs = search (sendable, memory_send) depth 20

pub is_given-requires-sync-F : goal.is_given-requires-sync-F
is_given-requires-sync-F c κs = search (sendable, memory_send, memory_sync) depth 20
