use denote.Param.Send.{sendable}
use Rattle.raft_memory.proofs.Sent.{memory_send, memory_sync}
use Rattle.raft_opening_scenarios.proofs.no_files.are_empty.Goals as goal

pub is_empty-alone-requires-send-F : goal.is_empty-alone-requires-send-F
is_empty-alone-requires-send-F g c = λ κs. search (sendable, memory_send) depth 20

pub is_empty-alone-requires-sync-F : goal.is_empty-alone-requires-sync-F
is_empty-alone-requires-sync-F g c = λ κs. search (sendable, memory_sync) depth 20

pub is_empty-heard-requires-send-F : goal.is_empty-heard-requires-send-F
is_empty-heard-requires-send-F g c = λ κs. search (sendable, memory_send) depth 20

pub is_empty-heard-requires-sync-F : goal.is_empty-heard-requires-sync-F
is_empty-heard-requires-sync-F g c = λ κs. search (sendable, memory_sync) depth 20

pub open_with_file_system-requires-send-F : goal.open_with_file_system-requires-send-F
open_with_file_system-requires-send-F g c = λ κs. search (sendable, memory_send) depth 20

pub open_with_file_system-requires-sync-F : goal.open_with_file_system-requires-sync-F
open_with_file_system-requires-sync-F g c = λ κs. search (sendable, memory_sync) depth 20

pub is_empty-over-requires-send-F : goal.is_empty-over-requires-send-F
is_empty-over-requires-send-F g c = λ κs. search (sendable, memory_send) depth 20

pub is_empty-over-requires-sync-F : goal.is_empty-over-requires-sync-F
is_empty-over-requires-sync-F g c = λ κs. search (sendable, memory_sync) depth 20
