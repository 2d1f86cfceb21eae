use Rattle.raft_recovery_laws.proofs.BoundLemmas.{batches_below, no_mark_recovered, no_mark_value}
use Rattle.raft_recovery_laws.proofs.bound_laws.batches_never_leave_these.Goals as goal

pub returns : goal.returns
returns c = record { below = batches_below; marks = no_mark_value; recovered = no_mark_recovered }
