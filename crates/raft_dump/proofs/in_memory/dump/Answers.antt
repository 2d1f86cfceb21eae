use denote.Param.Send.{sendable}
use Rattle.raft_memory.proofs.Sent.{memory_send, memory_sync}
use Rattle.raft_dump.proofs.in_memory.dump.Goals as goal

pub dump_with_file_system-requires-send-F : goal.dump_with_file_system-requires-send-F
dump_with_file_system-requires-send-F g c = search (sendable, memory_send) depth 20

pub dump_with_file_system-requires-sync-F : goal.dump_with_file_system-requires-sync-F
dump_with_file_system-requires-sync-F g c = search (sendable, memory_sync) depth 20
