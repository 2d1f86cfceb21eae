use Rattle.raft_index_laws.proofs.OpeningLemmas.{replay_end, replay_start, replay_step}
use Rattle.raft_index_laws.proofs.laws.an_opening_gives_standing_tables.Goals as goal

pub returns : goal.returns
returns c = record { begun = replay_start; replayed = replay_step; joined = replay_end }
