use denote.Param.Send.{sendable}
use Rattle.raft_memory.proofs.Sent.{memory_send, memory_sync}
use Rattle.raft_offline.proofs.forks.copies_of.Goals as goal

pub planned-requires-send-F : goal.planned-requires-send-F
planned-requires-send-F c κs = search (sendable, memory_send) depth 20

pub planned-requires-sync-F : goal.planned-requires-sync-F
planned-requires-sync-F c κs = search (sendable, memory_sync) depth 20
