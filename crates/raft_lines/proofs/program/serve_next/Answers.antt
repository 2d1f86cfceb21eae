use Rattle.raft_lines.proofs.LineReadingLemmas.{found_served, none_found}
use Rattle.raft_lines.specs.Settings.{were_read}
use Rattle.raft_lines.proofs.program.serve_next.Goals as goal

pub returns-in-Ok-true : goal.returns-in-Ok-true
returns-in-Ok-true g c = record { lines = λ known reading. found_served known (g.R.Read.remaining c.args.input.now) (g.R.Read.remaining c.read_line.new.input) c.read_line.new.line.items c.args.number (were_read c.args.settings.now) reading c.in-Ok-true.field-0 c.in-Ok-true.ensures.line c.in-Ok-true.field-0-test c.deref.result.now c.deref.ensures.value (were_read c.serve_line.new.settings) c.serve_line.result c.serve_line.ensures.lines }

pub returns-in-Ok-false : goal.returns-in-Ok-false
returns-in-Ok-false g c = record { lines = λ known reading. none_found known (g.R.Read.remaining c.args.input.now) (g.R.Read.remaining c.read_line.new.input) c.read_line.new.line.items c.args.number (were_read c.args.settings.now) reading c.in-Ok-false.field-0 c.in-Ok-false.ensures.line c.in-Ok-false.field-0-test }
