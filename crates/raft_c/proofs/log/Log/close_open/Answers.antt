use denote.Param.Send.{sendable}
use Rattle.std.proofs.Common.{rules, ◌≡◌, ℤ, of_z, subst, sym, to_z, w32}
use Rattle.raft_memory.proofs.Sent.{memory_send, memory_sync}
use Rattle.raft_disk.proofs.Sent.{mirror_send, mirror_sync}
use Rattle.raft_orders.proofs.Sent.{orders_send, orders_sync}
use Rattle.raft_c_log.specs.Closing.{IsClosedAs}
use Rattle.raft_c.specs.Logs.{IsClose}
use Rattle.raft_c.specs.declared.log.State.{State}
use Rattle.raft_c.specs.declared.log.State.TheVariants.{Closed, Open}
use Rattle.raft_c.proofs.log.Log.close_open.Goals as goal

pub close-code-requires-send-F : goal.close-code-requires-send-F
close-code-requires-send-F c κs = search (sendable, mirror_send, orders_send, memory_send) depth 20

pub close-code-requires-sync-F : goal.close-code-requires-sync-F
close-code-requires-sync-F c κs = search (sendable, mirror_sync, orders_sync, memory_sync) depth 20

pub returns-in-Open : goal.returns-in-Open
returns-in-Open c =
    let kept : to_z w32 (of_z w32 c.close-code.result.0) ≡ c.close-code.result.0 = search rules in
    let opened : c.args.self.now.state ≡ Open c.in-Open.log = search rules in
    let closed : IsClosedAs (to_z w32 (of_z w32 c.close-code.result.0)) c.in-Open.log.engine c.close-code.result.1 =
    subst (λ (z : ℤ). IsClosedAs z c.in-Open.log.engine c.close-code.result.1) (sym kept) c.close-code.ensures.closed in
    record {
      value = subst (λ (s : State). IsClose s (Closed c.close-code.result.1) (to_z w32 (of_z w32 c.close-code.result.0))) (sym opened) closed;
    }
