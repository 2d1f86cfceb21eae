use Rattle.std.proofs.Common.{◌≡◌, ◌∷◌, [], ℕ, nat_eq, Some, sym, ◌∙◌, ap, subst, rules, arith}
use Rattle.std.proofs.lemmas.Map.Keys.{IsDistinct-tail}
use Rattle.std.specs.List.{IsDistinct}
use Rattle.std.specs.Map.{keys_of}
use Rattle.raft_tables.specs.Pairs.{IsJoinedAt, newer_table, older_table, over, paired_total}
use Rattle.raft_tables.specs.Table.{empty_table, rewritten_in, table_of}
use Rattle.raft_tables.specs.Tables.{tables_of}
use Rattle.raft_tables.specs.declared.memtable.MemTable.{MemTable}
use Rattle.raft_tables.proofs.JoiningLemmas.{tables_in, total_in, total_in-cons}
use Rattle.raft_tables.proofs.PairLemmas.{paired_more, paired_set, paired_total-more}
use Rattle.raft_tables.proofs.memtables.MemTables.pair_up.Goals as goal

pub loop-group-preserved-in-Continue-branch-3 : goal.loop-group-preserved-in-Continue-branch-3
loop-group-preserved-in-Continue-branch-3 c =
    let l = c.loop-group in
    let e : ℕ × MemTable = (c.in-Some.group, c.in-Some.table) in
    let es = c.next.new.self in
    let p = c.in-Some-2.pair in
    let ps = l.pairs.items in
    let new = tables_of c.pair_or_set.new.self in
    let all : l.group-iterator ≡ e ∷ es = search rules in
    let distinct = subst (λ xs. IsDistinct nat_eq (keys_of xs)) all l.invariant.distinct in
    let is = rw c.in-Some-2.is at c.in_ok-pair.ensures in
    let pushed = c.in_ok-push.ensures.items in
    let more = ap paired_total pushed ∙ paired_total-more ps p in
    record {
      distinct = IsDistinct-tail nat_eq e.0 (keys_of es) distinct;
      paired = λ g j joined. l.invariant.paired g j
          (subst (λ xs. IsJoinedAt (over older_table ps (tables_in xs) g) (over newer_table ps (tables_of l.self) g) j) (sym all)
          (paired_more ps p e es (tables_of l.self) new (Some empty_table) distinct is.0 is.1 is.2 is.3 g j
          (subst (λ qs. IsJoinedAt (over older_table qs (tables_in es) g) (over newer_table qs new g) j) pushed joined)));
      counted = omega (arith, l.invariant.counted, ap total_in all ∙ total_in-cons e es, more, is.4, ap (λ t. rewritten_in (table_of t)) is.1);
    }

pub loop-group-preserved : goal.loop-group-preserved
loop-group-preserved c =
    let l = c.loop-group in
    let e : ℕ × MemTable = (c.in-Some.group, c.in-Some.table) in
    let es = c.next.new.self in
    let ps = l.pairs.items in
    let all : l.group-iterator ≡ e ∷ es = search rules in
    let distinct = subst (λ xs. IsDistinct nat_eq (keys_of xs)) all l.invariant.distinct in
    let is = rw c.in_default.is at c.in_ok-pair.ensures in
    record {
      distinct = IsDistinct-tail nat_eq e.0 (keys_of es) distinct;
      paired = λ g j joined. l.invariant.paired g j
          (subst (λ xs. IsJoinedAt (over older_table ps (tables_in xs) g) (over newer_table ps (tables_of l.self) g) j) (sym all)
          (paired_set ps e es (tables_of l.self) (tables_of c.pair_or_set.new.self) distinct is.0 is.1 g j joined));
      counted = omega (arith, l.invariant.counted, ap total_in all ∙ total_in-cons e es, is.2);
    }

pub returns-clause-ok : goal.returns-clause-ok
returns-clause-ok c = λ g j joined.
    let l = c.loop-group in
    let none : l.group-iterator ≡ [] = search rules in
    l.invariant.paired g j (subst (λ xs. IsJoinedAt (over older_table l.pairs.items (tables_in xs) g) (over newer_table l.pairs.items (tables_of l.self) g) j) (sym none) joined)
