use denote.Param.Send.{sendable}
use Rattle.raft_memory.proofs.Sent.{memory_send, memory_sync}
use Rattle.raft_lines.proofs.program.answer_asked.Goals as goal

pub answer_met-requires-send-F : goal.answer_met-requires-send-F
answer_met-requires-send-F c = λ κs. search (sendable, memory_send) depth 20

pub answer_met-requires-sync-F : goal.answer_met-requires-sync-F
answer_met-requires-sync-F c = λ κs. search (sendable, memory_sync) depth 20
