use denote.Param.Send.{sendable}
use Rattle.raft_memory.proofs.Sent.{memory_send, memory_sync}
use Rattle.raft_looks.proofs.dumping.dump_next.Goals as goal

pub dump_part-requires-send-F : goal.dump_part-requires-send-F
dump_part-requires-send-F c κs = search (sendable, memory_send) depth 20

pub dump_part-requires-sync-F : goal.dump_part-requires-sync-F
dump_part-requires-sync-F c κs = search (sendable, memory_sync) depth 20
