use Rattle.std.proofs.Common.{sym}
use Rattle.raft_lines.proofs.LineReadingLemmas.{other_served, set_served}
use Rattle.raft_lines.specs.Settings.{were_read}
use Rattle.raft_lines.proofs.program.serve_line.Goals as goal

pub returns-in-Some : goal.returns-in-Some
returns-in-Some g c = record { lines = set_served c.args.text.now (were_read c.args.settings.now) c.args.number (were_read c.serve_set.new.settings) c.serve_set.result c.in-Some.set.now (sym c.in-Some.ensures.value) c.serve_set.ensures.lines }

pub returns-in-None : goal.returns-in-None
returns-in-None g c = record { lines = other_served c.args.text.now (were_read c.args.settings.now) c.args.number (were_read c.serve_asked.new.settings) c.serve_asked.result (sym c.in-None.ensures.value) c.serve_asked.ensures.lines }
