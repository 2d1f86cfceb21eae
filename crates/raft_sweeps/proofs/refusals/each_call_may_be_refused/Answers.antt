use denote.Param.Send.{sendable}
use Rattle.raft_memory.proofs.Sent.{memory_send, memory_sync}
use Rattle.raft_sweeps.proofs.refusals.each_call_may_be_refused.Goals as goal

pub wrong_refusal-requires-send-F : goal.wrong_refusal-requires-send-F
wrong_refusal-requires-send-F c κs = search (sendable, memory_send) depth 20

pub wrong_refusal-requires-sync-F : goal.wrong_refusal-requires-sync-F
wrong_refusal-requires-sync-F c κs = search (sendable, memory_send, memory_sync) depth 20
