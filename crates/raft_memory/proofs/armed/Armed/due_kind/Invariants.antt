use Rattle.std.proofs.Common.{◌≡◌, drop}
use Rattle.raft_memory.specs.Armed.{arms_of, due_kind}
use Rattle.raft_memory.proofs.armed.Armed.due_kind.Given as goal

abbrev pub invariant-loop-armed : goal.invariant-loop-armed
invariant-loop-armed l = due_kind l.call (arms_of (drop l.armed-index l.armed-items)) ≡ due_kind l.call (arms_of l.armed-items)
