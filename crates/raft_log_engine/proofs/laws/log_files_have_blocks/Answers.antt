use Rattle.raft_log_engine.proofs.BlocksLemmas.{found_blocks, have_found_blocks}
use Rattle.raft_log_engine.proofs.laws.log_files_have_blocks.Goals as goal

pub returns : goal.returns
returns c = λ folders n single. (found_blocks folders n, have_found_blocks folders n single)
