use denote.Param.Send.{sendable}
use Rattle.raft_memory.proofs.Sent.{memory_send, memory_sync}
use Rattle.raft_disk.proofs.Sent.{folder_send, folder_sync, mirror_send, mirror_sync}
use Rattle.raft_opening_scenarios.proofs.crashes.seen_in.Goals as goal

pub seen_over-requires-send-F : goal.seen_over-requires-send-F
seen_over-requires-send-F c κs = search (sendable, mirror_send, folder_send, memory_send) depth 20

pub seen_over-requires-sync-F : goal.seen_over-requires-sync-F
seen_over-requires-sync-F c κs = search (sendable, mirror_sync, folder_sync, memory_sync) depth 20
