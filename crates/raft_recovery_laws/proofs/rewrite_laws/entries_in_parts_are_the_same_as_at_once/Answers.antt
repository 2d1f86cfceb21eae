use Rattle.raft_recovery_laws.proofs.PartLemmas.{after_item-parts}
use Rattle.raft_recovery_laws.proofs.rewrite_laws.entries_in_parts_are_the_same_as_at_once.Goals as goal

pub returns : goal.returns
returns c = record { parts = after_item-parts }
