use Rattle.raft_crash_laws.specs.Contents.{contents_at, known_at}
use Rattle.raft_lines.proofs.ProgramLemmas.{opened_or_refused, opened_with, opens_to}
use Rattle.raft_lines.specs.Program.{IsNewWith, IsOpeningFault}
use Rattle.raft_config.specs.Folders.{folders_in}
use Rattle.raft_lines.proofs.program.open_again.Goals as goal

pub returns : goal.returns
returns g c =
    let dir = folders_in c.args.config in
    let files = g.F.FileSystem.directory c.args.files in
    let holds = opened_or_refused (IsNewWith dir (contents_at dir files) (known_at dir files)) _ c.args.config files (g.F.FileSystem.refusals_of c.args.files) g.F.FileSystem.refusals_of c.open_in_order.result (opened_with dir files c.open_in_order.result c.open_in_order.ensures.opened.ok c.open_in_order.ensures.opened.value) c.open_in_order.ensures.refused in
    record { value = opens_to (IsNewWith dir (contents_at dir files) (known_at dir files)) (IsOpeningFault c.args.config files) c.open_in_order.result c.answer_opening.result c.answer_opening.new.engine c.answer_opening.ensures.value holds }
