-- That files in memory and of a folder may go to another thread and be shared, for callers that pass them on.
pub use Rattle.raft_memory.proofs.Sent.{memory_send, memory_sync}
pub use Rattle.raft_disk.proofs.Sent.{folder_send, folder_sync, mirror_send, mirror_sync}
