use Rattle.raft_world.proofs.KeptLemmas.{synced_may_begin, what_calls_keep_holds, what_calls_keep_is_found}
use Rattle.raft_world.proofs.laws.what_calls_keep_is_found.Goals as goal

pub returns-clause-found : goal.returns-clause-found
returns-clause-found g c = what_calls_keep_is_found g.F.FileSystem c.the_log_is_safe.ensures

pub returns-clause-nodes : goal.returns-clause-nodes
returns-clause-nodes g c = what_calls_keep_holds g.F.FileSystem c.the_log_is_safe.ensures

pub returns-clause-synced : goal.returns-clause-synced
returns-clause-synced g c = synced_may_begin g.F.FileSystem
