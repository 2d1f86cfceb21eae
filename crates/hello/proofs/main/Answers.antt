use denote.Param.Send.{sendable}
use Rattle.raft_memory.proofs.Sent.{memory_send, memory_sync}
use Rattle.raft_disk.proofs.Sent.{folder_send, folder_sync, mirror_send, mirror_sync}
use Rattle.hello.proofs.main.Goals as goal

pub put_and_find-requires-send-F : goal.put_and_find-requires-send-F
put_and_find-requires-send-F g c = search (sendable, mirror_send, folder_send, memory_send) depth 20

pub put_and_find-requires-sync-F : goal.put_and_find-requires-sync-F
put_and_find-requires-sync-F g c = search (sendable, mirror_sync, folder_sync, memory_sync) depth 20
