use Rattle.raft_pipes.proofs.SpareLemmas.{after_dropped, after_gone, after_keeps, after_own, after_renamed, after_reserved, after_set_aside, left_split}
use Rattle.raft_pipes.proofs.QueueFilesLemmas.{queue_left}
use Rattle.raft_pipes.proofs.spare_laws.files_below_may_go.Goals as goal

pub returns-clause-own : goal.returns-clause-own
returns-clause-own c = after_own

pub returns-clause-gone : goal.returns-clause-gone
returns-clause-gone c = after_gone

pub returns-clause-renamed : goal.returns-clause-renamed
returns-clause-renamed c = λ folders queue own dropped before seq path old a none k spare is_path low some stood.
    after_renamed folders queue own dropped before seq path old a k spare is_path low none some stood

pub returns-clause-dropped : goal.returns-clause-dropped
returns-clause-dropped c = after_dropped

pub returns-clause-keeps : goal.returns-clause-keeps
returns-clause-keeps c = after_keeps

pub returns-clause-left : goal.returns-clause-left
returns-clause-left c = λ folders queue batches counts n keeps d leaves detectable. (queue_left folders queue batches counts n keeps d leaves).1 detectable

pub returns-clause-split : goal.returns-clause-split
returns-clause-split c = left_split

pub returns-clause-reserved : goal.returns-clause-reserved
returns-clause-reserved c = after_reserved

pub returns-clause-set_aside : goal.returns-clause-set_aside
returns-clause-set_aside c = after_set_aside
