use Rattle.std.proofs.Common.{◌≡◌, ◌≤◌, length, nat_eq, true}
use Rattle.std.specs.HashMap as hash
use Rattle.std.specs.List.{list_any}
use Rattle.std.specs.Option.{IfSome}
use Rattle.raft_tables.proofs.GroupsFromLemmas.{AreFound}
use Rattle.raft_tables.proofs.memtables.MemTables.groups_from.Given as goal

-- what was found and what is left; at least so many were found before a next one
abbrev pub invariant-loop-group : goal.invariant-loop-group
invariant-loop-group l = record {
  found : AreFound l.from l.found.next (hash.keys l.self.tables) l.found.groups.items l.group-iterator;
  next : IfSome l.found.next (λ g. (l.limit ≤ length l.found.groups.items) × (list_any (nat_eq g) (hash.keys l.self.tables) ≡ true));
}
