use Rattle.raft_lines.proofs.ProgramLemmas.{storage_fault}
use Rattle.raft_lines.proofs.program.count_in.Goals as goal

pub returns-in-Err-clause-cause : goal.returns-in-Err-clause-cause
returns-in-Err-clause-cause g c = storage_fault _ _ _ c.with_path.ensures.value
