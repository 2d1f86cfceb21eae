use denote.Param.Send.{sendable}
use Rattle.raft_memory.proofs.Sent.{memory_send, memory_sync}
use Rattle.raft_commands.proofs.holes.holes_in.Goals as goal

pub consistency_check_with_file_system-requires-send-F
    : goal.consistency_check_with_file_system-requires-send-F
consistency_check_with_file_system-requires-send-F c κs = search (sendable, memory_send) depth 20

pub consistency_check_with_file_system-requires-sync-F
    : goal.consistency_check_with_file_system-requires-sync-F
consistency_check_with_file_system-requires-sync-F c κs = search (sendable, memory_sync) depth 20
