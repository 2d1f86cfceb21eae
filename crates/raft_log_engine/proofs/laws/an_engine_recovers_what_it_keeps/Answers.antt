use Rattle.raft_log_engine.proofs.EngineLemmas.{engine_holds, engine_leaves, engine_still_more}
use Rattle.raft_log_engine.proofs.StandsLemmas.{engine_logged}
use Rattle.raft_log_engine.proofs.laws.an_engine_recovers_what_it_keeps.Goals as goal

pub returns-clause-crash : goal.returns-clause-crash
returns-clause-crash g c = engine_leaves c.args.engine.now

pub returns-clause-contents : goal.returns-clause-contents
returns-clause-contents g c = engine_holds c.args.engine.now

pub returns-clause-any_moment : goal.returns-clause-any_moment
returns-clause-any_moment g c = engine_still_more c.args.engine.now

pub returns-clause-written : goal.returns-clause-written
returns-clause-written g c = engine_logged c.args.engine.now
