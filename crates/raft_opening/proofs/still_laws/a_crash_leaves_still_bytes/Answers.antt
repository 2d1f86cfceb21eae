use Rattle.raft_opening.proofs.ReadableLemmas.{still_at_left}
use Rattle.raft_opening.proofs.still_laws.a_crash_leaves_still_bytes.Goals as goal

pub returns : goal.returns
returns c = record { left = still_at_left }
