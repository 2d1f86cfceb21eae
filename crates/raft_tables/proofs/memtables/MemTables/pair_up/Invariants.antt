use Rattle.std.proofs.Common.{◌≡◌, ◌+◌, ℕ, nat_eq, Option}
use Rattle.std.specs.List.{IsDistinct}
use Rattle.std.specs.Map.{keys_of}
use Rattle.raft_tables.specs.Pairs.{IsJoinedAt, newer_table, older_table, over, paired_total}
use Rattle.raft_tables.specs.Recovering.{rewritten_total}
use Rattle.raft_tables.specs.Table.{TableView}
use Rattle.raft_tables.specs.Tables.{tables_of}
use Rattle.raft_tables.proofs.JoiningLemmas.{tables_in, total_in}
use Rattle.raft_tables.proofs.memtables.MemTables.pair_up.Given as goal

-- what joins the pairs over the tables, the older ones with those that are left, joins all
abbrev pub invariant-loop-group : goal.invariant-loop-group
invariant-loop-group l = record {
  distinct : IsDistinct nat_eq (keys_of l.group-iterator);
  paired : (g : ℕ) (j : Option TableView) → IsJoinedAt (over older_table l.pairs.items (tables_in l.group-iterator) g) (over newer_table l.pairs.items (tables_of l.self) g) j → IsJoinedAt (tables_of l.fn.older g) (tables_of l.fn.self g) j;
  counted : paired_total l.pairs.items + (total_in l.group-iterator + rewritten_total l.self) ≡ rewritten_total l.fn.older + rewritten_total l.fn.self;
}
