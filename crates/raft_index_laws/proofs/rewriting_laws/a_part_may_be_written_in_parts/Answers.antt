use Rattle.raft_index_laws.proofs.AtomicLemmas.{parts_rewritten}
use Rattle.raft_index_laws.proofs.rewriting_laws.a_part_may_be_written_in_parts.Goals as goal

pub returns : goal.returns
returns c = record { parts = parts_rewritten }
