use Rattle.std.proofs.Common.{◌≡◌, ◌+◌, ◌<◌, ◌⊎◌, ◌++◌, drop}
use Rattle.std.specs.List.{sum_by}
use Rattle.raft_purge_rules.specs.NextGroups.{cost_of_group}
use Rattle.raft_purge_rules.proofs.within_budget.next_groups.Given as goal

-- the groups that were taken, and those that are left to go over; what is left of the budget, if they
-- are within it, and else the first alone is more
abbrev pub invariant-loop-group : goal.invariant-loop-group
invariant-loop-group l = record {
  groups : l.groups.items ++ drop l.group-index l.group-items ≡ l.group-items;
  budget : (sum_by (cost_of_group l.watermark l.tables) l.groups.items + l.left ≡ l.budget)
      ⊎ ((l.left ≡ 0) × (sum_by (cost_of_group l.watermark l.tables) (drop 1 l.groups.items) ≡ 0) × (l.budget < sum_by (cost_of_group l.watermark l.tables) l.groups.items));
}
