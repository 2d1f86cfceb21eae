use Rattle.raft_index_laws.proofs.BeforeLemmas.{applied, items_left, joined_before, later, moved, whole_before}
use Rattle.raft_index_laws.proofs.last_file.nothing_is_placed_behind_the_last_file.Goals as goal

pub returns-clause-whole : goal.returns-clause-whole
returns-clause-whole c = whole_before

pub returns-clause-applied : goal.returns-clause-applied
returns-clause-applied c = applied

pub returns-clause-left : goal.returns-clause-left
returns-clause-left c = items_left

pub returns-clause-joined : goal.returns-clause-joined
returns-clause-joined c = joined_before

pub returns-clause-moved : goal.returns-clause-moved
returns-clause-moved c = moved

pub returns-clause-later : goal.returns-clause-later
returns-clause-later c = later
