use Rattle.raft_replay.proofs.ChunkLemmas.{entries_joined, merged_is, values_of_both}
use Rattle.raft_replay.proofs.KnownLemmas.{known_in_both}
use Rattle.raft_replay.proofs.laws.chunks_apart_leave_what_they_leave_in_order.Goals as goal

pub returns : goal.returns
returns c = record { entries = merged_is; values = values_of_both; joined = entries_joined; known = known_in_both }
