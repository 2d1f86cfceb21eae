use Rattle.raft_files.proofs.SealedLemmas.{sealed_left, sealed_beside, sealed_restarted, log_sealed, sealed_closing}
use Rattle.raft_files.proofs.laws.a_sealed_file_stays.Goals as goal

pub returns-clause-left : goal.returns-clause-left
returns-clause-left c = sealed_left

pub returns-clause-sealed : goal.returns-clause-sealed
returns-clause-sealed c = log_sealed

pub returns-clause-restarted : goal.returns-clause-restarted
returns-clause-restarted c = λ path id batches n m d sealed leaves restarted. sealed_restarted path id batches n sealed d m leaves restarted

pub returns-clause-beside : goal.returns-clause-beside
returns-clause-beside c = λ path id batches old n same sealed. sealed_beside path id batches old sealed n same

pub returns-clause-closing : goal.returns-clause-closing
returns-clause-closing c = sealed_closing
