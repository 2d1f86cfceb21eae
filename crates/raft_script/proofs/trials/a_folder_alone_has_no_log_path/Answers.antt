use Rattle.raft_script.proofs.TrialLemmas.{one_has_no_log_path}
use Rattle.raft_script.proofs.trials.a_folder_alone_has_no_log_path.Goals as goal

pub returns : goal.returns
returns c = record { one = one_has_no_log_path }
