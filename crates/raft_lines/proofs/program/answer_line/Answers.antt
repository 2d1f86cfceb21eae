use Rattle.std.proofs.Common.{◌≡◌, rules}
use Rattle.raft_lines.proofs.ProgramLemmas.{asked_then, line_answered, unless_fatal}
use Rattle.raft_lines.specs.Line.{asked_of}
use Rattle.raft_lines.specs.Settings.{were_read}
use Rattle.raft_lines.specs.declared.line.Line.TheVariants as line
use Rattle.raft_lines.proofs.program.answer_line.Goals as goal

pub returns-in-Ok-clause-value : goal.returns-in-Ok-clause-value
returns-in-Ok-clause-value c = line_answered c.args.settings.now c.read.new.self c.config.result.now c.config.ensures.value c.in-Ok.ensures.once c.in-Ok.ensures.value (asked_of c.args.line.now) c.args.engine.now c.answer_by.new.engine c.answer_by.result c.answer_by.ensures.value

pub returns-in-Ok-clause-read : goal.returns-in-Ok-clause-read
returns-in-Ok-clause-read c =
    let some : c.args.line.now ≡ line.Nothing → ⊥ = search rules in
    unless_fatal _ (asked_then (were_read c.args.settings.now) (were_read c.read.new.self) c.args.line.now some c.in-Ok.ensures.ok) c.answer_by.result
