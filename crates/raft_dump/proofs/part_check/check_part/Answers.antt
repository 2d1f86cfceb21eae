use denote.Param.Send.{sendable}
use Rattle.raft_memory.proofs.Sent.{memory_send, memory_sync}
use Rattle.raft_dump.proofs.part_check.check_part.Goals as goal

pub check_file-requires-send-F : goal.check_file-requires-send-F
check_file-requires-send-F c κs = search (sendable, memory_send) depth 20

pub check_file-requires-sync-F : goal.check_file-requires-sync-F
check_file-requires-sync-F c κs = search (sendable, memory_sync) depth 20
