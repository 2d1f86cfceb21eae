use denote.Param.Send.{sendable}
use Rattle.raft_memory.proofs.Sent.{memory_send, memory_sync}
use Rattle.raft_lines.proofs.program.serve_lines.Goals as goal

pub let_go-requires-send-F : goal.let_go-requires-send-F
let_go-requires-send-F g c = λ κs. search (sendable, memory_send) depth 20

pub let_go-requires-sync-F : goal.let_go-requires-sync-F
let_go-requires-sync-F g c = λ κs. search (sendable, memory_sync) depth 20
