use Rattle.raft_files.proofs.ReplayLemmas.{readable_records-replayed_records}
use Rattle.raft_files.proofs.laws.readable_records_are_the_replayed_with_sound_blocks.Goals as goal

pub returns : goal.returns
returns c = record { value = readable_records-replayed_records }
