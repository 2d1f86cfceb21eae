use denote.Param.Send.{sendable}
use Rattle.raft_memory.proofs.Sent.{memory_send, memory_sync}
use Rattle.raft_trials.proofs.refusals.each_call.Goals as goal

pub refuse_over-requires-send-F : goal.refuse_over-requires-send-F
refuse_over-requires-send-F c κs = search (sendable, memory_send) depth 20

pub refuse_over-requires-sync-F : goal.refuse_over-requires-sync-F
refuse_over-requires-sync-F c κs = search (sendable, memory_send, memory_sync) depth 20
