use Rattle.raft_replay.proofs.ChunkLemmas.{reach_of_both, reach_join, then_nothing, nothing_then, left_by_reach, touched_by_reach}
use Rattle.raft_replay.proofs.laws.reaches_of_chunks_join.Goals as goal

pub returns : goal.returns
returns c = record { reach = reach_of_both; associative = reach_join; neutral = λ a. (then_nothing a, nothing_then a); left = left_by_reach; keys = touched_by_reach }
