use denote.Param.Send.{sendable}
use Rattle.raft_memory.proofs.Sent.{memory_send, memory_sync}
use Rattle.voter.proofs.FoundLemmas.{first_vote_found, in_fresh_folders}
use Rattle.voter.proofs.save_and_crash.Goals as goal

pub calls_have_effects-requires-send-F : goal.calls_have_effects-requires-send-F
calls_have_effects-requires-send-F c κs = search (sendable, memory_send) depth 20

pub calls_have_effects-requires-sync-F : goal.calls_have_effects-requires-sync-F
calls_have_effects-requires-sync-F c κs = search (sendable, memory_sync) depth 20

pub other_calls_leave_it-requires-send-F : goal.other_calls_leave_it-requires-send-F
other_calls_leave_it-requires-send-F c κs = search (sendable, memory_send) depth 20

pub other_calls_leave_it-requires-sync-F : goal.other_calls_leave_it-requires-sync-F
other_calls_leave_it-requires-sync-F c κs = search (sendable, memory_sync) depth 20

pub save-failed-requires-send-F : goal.save-failed-requires-send-F
save-failed-requires-send-F c κs = search (sendable, memory_send) depth 20

pub save-failed-requires-sync-F : goal.save-failed-requires-sync-F
save-failed-requires-sync-F c κs = search (sendable, memory_sync) depth 20

pub returns : goal.returns
returns c = first_vote_found _ c.calls_have_effects.ensures.stop_at c.other_calls_leave_it.ensures.calls c.args.engine.now c.stop_at.new.self c.save-failed.new.engine
    c.requires c.stop_at.ensures.unchanged c.save-failed.ensures.moves _ _ c.find.result c.find.ensures (in_fresh_folders c.fresh.result c.fresh.ensures.value)
