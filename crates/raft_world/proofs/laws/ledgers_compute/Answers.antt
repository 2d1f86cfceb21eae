use Rattle.raft_world.proofs.LedgerLemmas.{after-append, all_durable_accepted, calls_add_batches, durable_is_found, found_is_a_first_part, may_find_accepted, none_chosen}
use Rattle.raft_world.proofs.laws.ledgers_compute.Goals as goal

pub returns-clause-found : goal.returns-clause-found
returns-clause-found c = found_is_a_first_part

pub returns-clause-accepted : goal.returns-clause-accepted
returns-clause-accepted c = may_find_accepted

pub returns-clause-durable : goal.returns-clause-durable
returns-clause-durable c = durable_is_found

pub returns-clause-sync : goal.returns-clause-sync
returns-clause-sync c = all_durable_accepted

pub returns-clause-effect : goal.returns-clause-effect
returns-clause-effect c = calls_add_batches

pub returns-clause-append : goal.returns-clause-append
returns-clause-append c = after-append

pub returns-clause-none : goal.returns-clause-none
returns-clause-none c = none_chosen
