use Rattle.raft_index_laws.proofs.FirstLemmas.{nothing_before, nothing_rewritten_before}
use Rattle.raft_index_laws.proofs.rewriting_laws.nothing_stands_before_the_first_file.Goals as goal

pub returns-clause-first : goal.returns-clause-first
returns-clause-first c = nothing_before

pub returns-clause-rewritten : goal.returns-clause-rewritten
returns-clause-rewritten c = nothing_rewritten_before
