use denote.Param.Send.{sendable}
use Rattle.std.proofs.Crossing as items
use Rattle.raft_memory.proofs.Sent.{memory_send}
use Rattle.raft_log_engine.proofs.Crossing.{engine_send}
use Rattle.raft_shared_scenarios.proofs.Crossing.{writer_send}
use Rattle.raft_shared_scenarios.proofs.threads.start_putters.Goals as goal

pub spawn-requires-send-F : goal.spawn-requires-send-F
spawn-requires-send-F g c = search (sendable, items.crosses, engine_send, memory_send, writer_send) depth 20
