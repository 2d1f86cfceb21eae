use Rattle.raft_lines.specs.Line.{IsReading}
use Rattle.raft_lines.specs.Settings.{were_read}
use Rattle.raft_lines.proofs.program.serve_each.Given as goal

abbrev pub invariant-loop-number : goal.invariant-loop-number
invariant-loop-number g l = IsReading (g.R.Read.remaining l.fn.input) (g.R.Read.remaining l.input) l.number (were_read l.settings)
