use denote.Param.Send.{sendable}
use Rattle.raft_memory.proofs.Sent.{memory_send, memory_sync}
use Rattle.raft_sweeps.proofs.heard.a_listener_hears_each_call_in_order.Goals as goal

pub wrong_call-requires-send-F : goal.wrong_call-requires-send-F
wrong_call-requires-send-F c κs = search (sendable, memory_send) depth 20

pub wrong_call-requires-sync-F : goal.wrong_call-requires-sync-F
wrong_call-requires-sync-F c κs = search (sendable, memory_send, memory_sync) depth 20
