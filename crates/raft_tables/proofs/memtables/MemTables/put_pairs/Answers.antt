use Rattle.std.proofs.Common.{◌≡◌, ◌+◌, ◌++◌, ◌∷◌, [], sym, ◌∙◌, ap, subst, arith}
use Rattle.std.specs.List.{AllByRecursion}
use Rattle.raft_tables.specs.Pairs.{WasJoined, joined_total, left_of_result, newer_table}
use Rattle.raft_tables.specs.Tables.{tables_of}
use Rattle.raft_tables.proofs.JoiningLemmas.{count_more}
use Rattle.raft_tables.proofs.PairLemmas.{joined_total-more, over-put, was_more}
use Rattle.raft_tables.proofs.memtables.MemTables.put_pairs.Goals as goal

pub loop-pair-preserved : goal.loop-pair-preserved
loop-pair-preserved c =
    let l = c.loop-pair in
    let p = c.in-Some.pair in
    let rest = c.pop.new.self.items in
    let all : l.pairs.items ≡ rest ++ p ∷ [] = c.in-Some.ensures.items in
    let more = c.in_ok-more.more in
    let replaced = c.in_ok-replaced.replaced in
    let set = c.in_ok-replaced.ensures in
    let counted = l.invariant.counted in
    let first = count_more counted.0 l.left more c.saturating_add.result counted.1 c.saturating_add.ensures in
    record {
      tables = over-put newer_table rest l.pairs.items p (tables_of l.self) (tables_of c.set_table.new.self) all set.ok ∙ l.invariant.tables;
      joined = λ was. l.invariant.joined (subst (AllByRecursion WasJoined) (sym all) (was_more rest p was (more, c.in_ok-more.was)));
      counted = (
        counted.0 + more + replaced,
        count_more (counted.0 + more) c.saturating_add.result replaced c.saturating_add-left.result first c.saturating_add-left.ensures,
        omega (arith, counted.2, ap joined_total all ∙ joined_total-more rest p, ap left_of_result c.in_ok-more.was, set.total),
      );
    }
