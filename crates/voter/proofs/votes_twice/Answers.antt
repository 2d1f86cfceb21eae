use Rattle.std.proofs.Common.{◌∙◌}
use denote.Param.Send.{sendable}
use Rattle.raft_memory.proofs.Sent.{memory_send, memory_sync}
use Rattle.voter.proofs.FoundLemmas.{is_not_saved}
use Rattle.voter.proofs.votes_twice.Goals as goal

pub a_node_votes_once-requires-send-F : goal.a_node_votes_once-requires-send-F
a_node_votes_once-requires-send-F c κs = search (sendable, memory_send) depth 20

pub a_node_votes_once-requires-sync-F : goal.a_node_votes_once-requires-sync-F
a_node_votes_once-requires-sync-F c κs = search (sendable, memory_sync) depth 20

pub save-requires-send-F : goal.save-requires-send-F
save-requires-send-F c κs = search (sendable, memory_send) depth 20

pub save-requires-sync-F : goal.save-requires-sync-F
save-requires-sync-F c κs = search (sendable, memory_sync) depth 20

pub returns : goal.returns
returns c = c.is_ok.ensures.value ∙ is_not_saved _ c.a_node_votes_once.ensures c.in_ok-engine.engine c.in_ok-engine.ensures c.save.result c.save.ensures.refused
