use Rattle.raft_lines.proofs.LineReadingLemmas.{ends_early, reading_begun}
use Rattle.raft_lines.proofs.program.serve_each.Goals as goal

pub loop-number-init : goal.loop-number-init
loop-number-init g c = reading_begun _ _ c.requires

pub returns : goal.returns
returns g c = record { lines = ends_early (g.R.Read.remaining c.args.input.now) }
