use Rattle.raft_lines.proofs.ProgramLemmas.{answered_by, refused_by}
use Rattle.raft_lines.specs.Line.{asked_of}
use Rattle.raft_lines.proofs.program.answer_by.Goals as goal

pub returns-in-Ok : goal.returns-in-Ok
returns-in-Ok c = record { value = answered_by c.args.config.now (asked_of c.args.line.now) c.args.engine.now c.answer_asked.new.engine c.in-Ok.met c.in_ok-met.field-0 c.answer_asked.result c.in-Ok.is c.in_ok-met.ensures.value c.answer_asked.ensures.value }

pub returns-in-Err : goal.returns-in-Err
returns-in-Err c = record { value = refused_by c.args.config.now (asked_of c.args.line.now) c.args.engine.now c.take_or_open.new.engine c.in-Err.refused c.in_ok-met.field-0 c.in-Err.is c.in_ok-met.ensures.value }
