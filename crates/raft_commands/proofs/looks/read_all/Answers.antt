use denote.Param.Send.{sendable}
use Rattle.raft_memory.proofs.Sent.{memory_send, memory_sync}
use Rattle.raft_commands.proofs.looks.read_all.Goals as goal

pub note_cuts-requires-send-F : goal.note_cuts-requires-send-F
note_cuts-requires-send-F c κs = search (sendable, memory_send) depth 20

pub note_cuts-requires-sync-F : goal.note_cuts-requires-sync-F
note_cuts-requires-sync-F c κs = search (sendable, memory_sync) depth 20
