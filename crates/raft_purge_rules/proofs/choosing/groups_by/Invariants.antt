use Rattle.std.proofs.Common.{◌≡◌, ◌++◌, drop}
use Rattle.raft_purge_rules.specs.Choosing.{groups_by}
use Rattle.raft_purge_rules.proofs.choosing.groups_by.Given as goal

-- those that were found, and what is left to go over
abbrev pub invariant-loop-decision : goal.invariant-loop-decision
invariant-loop-decision l = l.groups.items ++ groups_by l.chosen (drop l.decision-index l.decisions) ≡ groups_by l.chosen l.decisions
