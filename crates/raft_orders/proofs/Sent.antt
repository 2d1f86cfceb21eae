-- Orders may go to another thread and be shared.
use denote.RattleType.{RattleType}
use denote.Param.Send.{IsSend, IsSync, sendable, owning_send, part_keyless}
use Rattle.std.proofs.Crossing as items
use Rattle.raft_memory.proofs.Sent.{memory_send, noted_field_send}
use Rattle.raft_base.specs.contracts.history.History as history
use Rattle.raft_disk.specs.contracts.told.Call as call
use Rattle.raft_orders.specs.contracts.orders.Orders as orders

call_send : IsSend call.the_row
call_send = search (sendable, items.crosses, noted_field_send) depth 20

history_send : (A : RattleType) → IsSend A → IsSend (history.the_row A)
history_send A a = owning_send (history.the_type A) (search sendable, tt) (λ d. tt) (λ k x w. tt)

history_sync : (A : RattleType) → IsSend A → IsSync (history.the_row A)
history_sync A a = record {
  shared = λ d b o κ q. part_keyless (history.the_row A) (history_send A a) q d b o;
}

pub orders_send : IsSend orders.the_row
orders_send = search (
  sendable,
  items.crosses,
  call_send,
  noted_field_send,
  history_send,
  memory_send,
) depth 20

pub orders_sync : IsSync orders.the_row
orders_sync = search (
  sendable,
  items.crosses,
  call_send,
  noted_field_send,
  history_sync,
  memory_send,
) depth 20
