use Rattle.raft_log_engine.proofs.laws.pipes_are_made_by_the_settings.Goals as goal

pub returns : goal.returns
returns g c = record { form = λ alive. c.args.engine.now.form alive }
