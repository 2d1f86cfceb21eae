use Rattle.raft_dump_laws.proofs.PassedLemmas.{files_kept}
use Rattle.raft_dump_laws.proofs.laws.the_files_behind_are_kept.Goals as goal

pub returns : goal.returns
returns c = files_kept
