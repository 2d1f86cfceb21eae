-- Which groups are rewritten next, within a budget.
use Rattle.std.specs.Prelude.{◌≡◌, ◌<◌, ◌≤◌, ◌+◌, ◌⊎◌, ℕ, true, ◌&&◌, length, nat_eq, nat_le, Option, is_some}
use Rattle.std.specs.List.{list_any, sum_by}
use Rattle.std.specs.Option.{IfSome}
use Rattle.raft_tables.specs.GroupsFrom.{comes_before}
use Rattle.raft_tables.specs.Tables.{Tables}
use Rattle.raft_tables.specs.ToMove.{bytes_of_group}
use Rattle.raft_tables.specs.declared.memtables.MemTables.{MemTables}
use Rattle.raft_purge_rules.specs.declared.within_budget.NextGroups.{NextGroups}

-- the known groups from this one on and before the next, which is a known one behind them
pub record AreNextGroups (from : ℕ) (t : Tables) (x : NextGroups) : Type 0 where
  pub each : (g : ℕ) → list_any (nat_eq g) x.groups.items
      ≡ (is_some (t g) && (nat_le from g && comes_before x.next g))
  pub next : IfSome x.next (λ g. (from < g) × (is_some (t g) ≡ true))
  -- none follows where there is none
  pub some : IfSome x.next (λ g. 0 < length x.groups.items)

-- a group's bytes, and 64 for the look at it
abbrev pub cost_of_group : Option ℕ → MemTables → ℕ → ℕ
cost_of_group watermark m group = 64 + bytes_of_group watermark m group

-- the groups cost at most so much, or it is one group; with the next one they cost more
pub record FitBudget (budget : ℕ) (watermark : Option ℕ) (m : MemTables) (x : NextGroups) : Type 0 where
  pub within : (sum_by (cost_of_group watermark m) x.groups.items ≤ budget)
      ⊎ (length x.groups.items ≤ 1)
  pub full : IfSome x.next (λ g. budget
      < sum_by (cost_of_group watermark m) x.groups.items + cost_of_group watermark m g)
