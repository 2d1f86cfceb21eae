-- A shared engine may go to another thread, and so may its seats.
use denote.RattleType.{RattleType}
use denote.Struct.Declared.{shape}
use denote.Param.Send.{IsSend, IsSync, AllSend, sendable, recorded_send, struct_send}
use Rattle.std.proofs.Crossing as items
use Rattle.std.proofs.MapsCrossing as maps
use Rattle.raft_env.specs.declared.env.FileSystem.{Ghosts}
use Rattle.raft_log_engine.specs.contracts.engine.Engine as engine
use Rattle.raft_log_engine.proofs.Crossing.{batch_send, batch_sync, engine_parts, engine_send, history_send}
use Rattle.raft_base.specs.contracts.errors.Fault as fault
use Rattle.raft_shared.specs.contracts.call.Call as call
use Rattle.raft_shared.specs.contracts.call.Receipt as receipt
use Rattle.raft_shared.specs.contracts.call.Recorded as recorded
use Rattle.raft_shared.specs.contracts.call.Reply as reply
use Rattle.raft_shared.specs.contracts.seat.Seat as seat
use Rattle.raft_shared.specs.contracts.shared.Shared as shared

pub fault_send : IsSend (fault.the_field).row
fault_send = search (sendable, items.crosses, maps.crosses) depth 20

pub call_send : IsSend (call.the_field).row
call_send = search (sendable, items.crosses, batch_send) depth 20

pub call_sync : IsSync (call.the_field).row
call_sync = search (sendable, items.crosses, batch_sync) depth 20

pub reply_send : IsSend (reply.the_field).row
reply_send = search (sendable, items.crosses, fault_send) depth 20

recorded_parts : AllSend (shape recorded.the_type).fields
recorded_parts = (search sendable, (search (sendable, items.crosses, call_send, call_sync) depth 20, (reply_send, tt)))

recorded_call_send : IsSend recorded.the_row
recorded_call_send = recorded_send _ _ _ (recorded.the_type).to_one (struct_send (shape recorded.the_type) recorded_parts)

receipt_parts : AllSend (shape receipt.the_type).fields
receipt_parts = (search sendable, (search (sendable, items.crosses, call_send, call_sync) depth 20, (reply_send, tt)))

receipt_send : IsSend receipt.the_row
receipt_send = recorded_send _ _ _ (receipt.the_type).to_one (struct_send (shape receipt.the_type) receipt_parts)

seat_parts : AllSend (shape seat.the_type).fields
seat_parts = (search sendable, (search (sendable, items.crosses, receipt_send) depth 20, tt))

pub seat_send : IsSend seat.the_row
seat_send = recorded_send _ _ _ (seat.the_type).to_one (struct_send (shape seat.the_type) seat_parts)

module _ (F H R W : RattleType) (g : Ghosts F.Denot H.Denot R.Denot W.Denot) where
  pub shared_parts : IsSend F → IsSend W → AllSend (shape (shared.the_type F H R W g)).fields
  shared_parts f w = (
    search (sendable, items.crosses) depth 20,
    (
      struct_send (shape (engine.the_type F H R W g)) (engine_parts F H R W g f w),
      (
        search (sendable, items.crosses, recorded_call_send) depth 20,
        (search sendable, (search sendable, (history_send (engine.the_row F H R W g) (engine_send F H R W g f w), (history_send (engine.the_row F H R W g) (engine_send F H R W g f w), tt)))),
      ),
    ),
  )

  pub shared_send : IsSend F → IsSend W → IsSend (shared.the_row F H R W g)
  shared_send f w = recorded_send _ _ _ (shared.the_type F H R W g).to_one (struct_send (shape (shared.the_type F H R W g)) (shared_parts f w))
