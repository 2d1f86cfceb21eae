use Rattle.raft_recovery_laws.proofs.ContentsLemmas.{effect_consecutive, recovered-nothing_rewritten, replay-appended, replay-all_appended}
use Rattle.raft_recovery_laws.specs.Recovered.{effect}
use Rattle.raft_recovery_laws.proofs.laws.valid_batches_are_found.Goals as goal

pub returns-clause-alone : goal.returns-clause-alone
returns-clause-alone c = recovered-nothing_rewritten

pub returns-clause-one : goal.returns-clause-one
returns-clause-one c = λ rewritten appended batch run consecutive valid. replay-appended (effect rewritten) appended batch (effect_consecutive rewritten run) consecutive valid

pub returns-clause-all : goal.returns-clause-all
returns-clause-all c = λ rewritten appended batches run consecutive valid. replay-all_appended (effect rewritten) appended batches (effect_consecutive rewritten run) consecutive valid
