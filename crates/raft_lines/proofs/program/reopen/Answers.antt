use Rattle.raft_lines.proofs.ProgramLemmas.{opens_to, reopened, reopened_or_refused}
use Rattle.raft_lines.specs.Program.{IsReopenFault, IsReopened}
use Rattle.raft_lines.proofs.program.reopen.Goals as goal

pub returns : goal.returns
returns g c =
    let old = c.args.met in
    let opened = reopened old c.reopen.result c.reopen.ensures.ok c.reopen.ensures.reopened c.reopen.ensures.failed in
    record { value = opens_to (IsReopened old) (IsReopenFault old) c.reopen.result c.answer_opening.result c.answer_opening.new.engine c.answer_opening.ensures.value (reopened_or_refused old g.F.FileSystem.refusals_of c.reopen.result opened c.reopen.ensures.failed c.reopen.ensures.cause) }
