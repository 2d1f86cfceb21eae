use denote.Param.Send.{sendable}
use Rattle.raft_memory.proofs.Sent.{memory_send, memory_sync}
use Rattle.raft_shared_scenarios.proofs.histories.histories.Goals as goal

pub wrong_story-requires-send-F : goal.wrong_story-requires-send-F
wrong_story-requires-send-F c κs = search (sendable, memory_send) depth 20

pub wrong_story-requires-sync-F : goal.wrong_story-requires-sync-F
wrong_story-requires-sync-F c κs = search (sendable, memory_send, memory_sync) depth 20
