use Rattle.std.proofs.Common.{◌≡◌, map, take}
use Rattle.std.specs.Prelude.{nat_le}
use Rattle.std.specs.List.{AllByRecursion as Each}
use Rattle.raft_tables.specs.Tables.{tables_of}
use Rattle.raft_purge_rules.specs.Choosing.{IsDecided}
use Rattle.raft_purge_rules.specs.Rounds.{rounds_of}
use Rattle.raft_purge_rules.proofs.choosing.decide_all.Given as goal

abbrev pub invariant-loop-group : goal.invariant-loop-group
invariant-loop-group l = record {
  groups : map (λ d. d.group) l.decisions.items ≡ take l.group-index l.group-items;
  each : Each (λ d. IsDecided l.needs (nat_le 9 (rounds_of l.rounds d.group)) (tables_of l.tables d.group) d) l.decisions.items;
}
