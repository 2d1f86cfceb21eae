use Rattle.raft_index_laws.proofs.HeldLemmas.{holds_entries, holds_value}
use Rattle.raft_index_laws.proofs.rewriting_laws.new_files_hold_what_is_placed_there.Goals as goal

pub returns : goal.returns
returns c = record { entries = holds_entries; value = holds_value }
