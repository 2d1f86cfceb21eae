use denote.Param.Send.{sendable}
use Rattle.raft_memory.proofs.Sent.{memory_send, memory_sync}
use Rattle.raft_commands.proofs.looks.show.Goals as goal

pub stat-requires-send-F : goal.stat-requires-send-F
stat-requires-send-F c κs = search (sendable, memory_send) depth 20

pub stat-requires-sync-F : goal.stat-requires-sync-F
stat-requires-sync-F c κs = search (sendable, memory_sync) depth 20

pub print_picture-requires-send-F : goal.print_picture-requires-send-F
print_picture-requires-send-F c κs = search (sendable, memory_send) depth 20

pub print_picture-requires-sync-F : goal.print_picture-requires-sync-F
print_picture-requires-sync-F c κs = search (sendable, memory_sync) depth 20

pub show_found-requires-send-F : goal.show_found-requires-send-F
show_found-requires-send-F c κs = search (sendable, memory_send) depth 20

pub show_found-requires-sync-F : goal.show_found-requires-sync-F
show_found-requires-sync-F c κs = search (sendable, memory_sync) depth 20
