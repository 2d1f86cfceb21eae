use denote.Param.Send.{sendable}
use Rattle.raft_memory.proofs.Sent.{memory_send, memory_sync}
use Rattle.raft_play.proofs.play_file.Goals as goal

pub play-requires-send-F : goal.play-requires-send-F
play-requires-send-F g c = λ κs. search (sendable, memory_send) depth 20

pub play-requires-sync-F : goal.play-requires-sync-F
play-requires-sync-F g c = λ κs. search (sendable, memory_send, memory_sync) depth 20
