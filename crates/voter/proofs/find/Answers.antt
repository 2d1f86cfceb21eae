use denote.Param.Send.{sendable}
use Rattle.std.specs.Prelude.{[], ◌∷◌}
use Rattle.raft_memory.specs.Choice.{left_by}
use Rattle.raft_memory.proofs.Sent.{memory_send, memory_sync}
use Rattle.voter.proofs.FoundLemmas.{is_found}
use Rattle.voter.proofs.find.Goals as goal

pub file_system-requires-send-F : goal.file_system-requires-send-F
file_system-requires-send-F c κs = search (sendable, memory_send) depth 20

pub file_system-requires-sync-F : goal.file_system-requires-sync-F
file_system-requires-sync-F c κs = search (sendable, memory_sync) depth 20

pub open_in_order-requires-send-F : goal.open_in_order-requires-send-F
open_in_order-requires-send-F c κs = search (sendable, memory_send) depth 20

pub open_in_order-requires-sync-F : goal.open_in_order-requires-sync-F
open_in_order-requires-sync-F c κs = search (sendable, memory_sync) depth 20

pub load-requires-send-F : goal.load-requires-send-F
load-requires-send-F c κs = search (sendable, memory_send) depth 20

pub load-requires-sync-F : goal.load-requires-sync-F
load-requires-sync-F c κs = search (sendable, memory_sync) depth 20

pub returns : goal.returns
returns c = is_found _ 7 c.args.engine.now c.in_ok-opened.opened (left_by (c.args.left ∷ [])) _ c.args.config c.in_ok-files.files c.file_system.ensures.value.0
    c.in_ok-files.ensures.value c.in_ok-files.ensures.ok c.in_ok-opened.ensures c.load.result c.load.ensures.value
