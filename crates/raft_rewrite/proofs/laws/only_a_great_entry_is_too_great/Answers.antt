use Rattle.raft_rewrite.proofs.TooGreatLemmas.{great_part}
use Rattle.raft_rewrite.proofs.laws.only_a_great_entry_is_too_great.Goals as goal

pub returns : goal.returns
returns c = record { value = great_part }
