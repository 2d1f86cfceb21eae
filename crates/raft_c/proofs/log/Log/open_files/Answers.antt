use denote.Param.Send.{sendable}
use Rattle.raft_memory.proofs.Sent.{memory_send, memory_sync}
use Rattle.raft_disk.proofs.Sent.{mirror_send, mirror_sync}
use Rattle.raft_orders.proofs.Sent.{orders_send, orders_sync}
use Rattle.std.proofs.Common.{rules, ◌≡◌, of_z, refl, sym, to_z, w32}
use Rattle.raft_c.proofs.OpenedLemmas.{keeps_from, unopened_from}
use Rattle.raft_c.proofs.log.Log.open_files.Goals as goal

pub open-requires-send-F : goal.open-requires-send-F
open-requires-send-F c κs = search (sendable, mirror_send, orders_send, memory_send) depth 20

pub open-requires-sync-F : goal.open-requires-sync-F
open-requires-sync-F c κs = search (sendable, mirror_sync, orders_sync, memory_sync) depth 20

pub returns-in-Ok : goal.returns-in-Ok
returns-in-Ok c = record { value = (refl, c.in-Ok.ensures.ok, keeps_from _ _ _ _ _ _ c.requires.new c.in-Ok.ensures.any_moment) }

pub returns-in-Err : goal.returns-in-Err
returns-in-Err c =
    let kept : to_z w32 (of_z w32 c.in-Err.unopened.code) ≡ c.in-Err.unopened.code = search rules in
    record { value = (unopened_from _ _ _ _ _ _ _ (sym kept) c.requires.unrefused c.in-Err.ensures.cause, keeps_from _ _ _ _ _ _ c.requires.new c.in-Err.ensures.any_moment) }
