use denote.Param.Send.{sendable}
use Rattle.raft_memory.proofs.Sent.{memory_send, memory_sync}
use Rattle.voter.proofs.FoundLemmas.{has_voted}
use Rattle.voter.proofs.vote.Goals as goal

pub open_in_order-requires-send-F : goal.open_in_order-requires-send-F
open_in_order-requires-send-F c κs = search (sendable, memory_send) depth 20

pub open_in_order-requires-sync-F : goal.open_in_order-requires-sync-F
open_in_order-requires-sync-F c κs = search (sendable, memory_sync) depth 20

pub save-requires-send-F : goal.save-requires-send-F
save-requires-send-F c κs = search (sendable, memory_send) depth 20

pub save-requires-sync-F : goal.save-requires-sync-F
save-requires-sync-F c κs = search (sendable, memory_sync) depth 20

pub returns : goal.returns
returns c = has_voted _ c.fresh.result _ c.in_ok-engine.engine c.save.new.engine c.fresh.ensures.value c.in_ok-engine.ensures c.in_ok-save.ensures.moves c.in_ok-save.ensures.stays
