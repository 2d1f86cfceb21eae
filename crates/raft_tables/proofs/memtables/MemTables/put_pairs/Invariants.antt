use Rattle.std.proofs.Common.{◌≡◌, ◌+◌, ℕ, length}
use Rattle.std.specs.List.{AllByRecursion}
use Rattle.raft_base.specs.declared.pipe_log.LogQueue.TheVariants.{Rewrite}
use Rattle.raft_tables.specs.Counters.{count_after}
use Rattle.raft_tables.specs.Pairs.{WasJoined, joined_total, newer_table, over}
use Rattle.raft_tables.specs.Recovering.{rewritten_total}
use Rattle.raft_tables.specs.Tables.{tables_of}
use Rattle.raft_tables.proofs.memtables.MemTables.put_pairs.Given as goal

-- what the pairs that are left give is what all of them give
abbrev pub invariant-loop-pair : goal.invariant-loop-pair
invariant-loop-pair l = record {
  tables : over newer_table l.pairs.items (tables_of l.self) ≡ over newer_table l.fn.pairs.items (tables_of l.fn.self);
  joined : AllByRecursion WasJoined l.pairs.items → AllByRecursion WasJoined l.fn.pairs.items;
  counted : (n : ℕ) × (l.left ≡ count_after Rewrite n 0) × (n + (joined_total l.pairs.items + rewritten_total l.self) ≡ joined_total l.fn.pairs.items + rewritten_total l.fn.self);
}

abbrev pub decreases-loop-pair : goal.decreases-loop-pair
decreases-loop-pair l = length l.pairs.items
