use Rattle.std.proofs.Common.{◌≡◌, Some, refl, sym, ◌∙◌, ap, rules, arith}
use Rattle.std.specs.Option.{option_map}
use Rattle.raft_tables.specs.Table.{rewritten_in, table_of}
use Rattle.raft_tables.specs.Tables.{tables_of, with_table}
use Rattle.raft_tables.proofs.JoiningLemmas.{total-insert, total-set}
use Rattle.raft_tables.proofs.TablesLemmas.{table_changed}
use Rattle.raft_tables.proofs.memtables.MemTables.pair_or_set.Goals as goal

pub returns-in-Some : goal.returns-in-Some
returns-in-Some c =
    let m = c.args.self.now in
    let new = c.replace.new.dest in
    let there = c.in-Some.ensures.value in
    let taken = ap table_of c.replace.ensures.value in
    let empty = ap table_of c.replace.ensures.after ∙ c.new-empty.ensures.value in
    let none : rewritten_in (table_of new) ≡ 0 = ap rewritten_in empty in
    let sum = total-set m (c.get_mut.follows.lender new) c.args.group c.in-Some.table.now new there (c.get_mut.follows.holds new).0 in (
      refl,
      refl,
      sym (ap (option_map table_of) there) ∙ sym (ap Some taken),
      table_changed m (c.get_mut.follows.lender new) c.args.group (Some new) ((c.get_mut.follows.holds new).3 (search rules)) ∙ ap (λ v. with_table c.args.group (Some v) (tables_of m)) empty,
      omega (arith, sum, none, ap rewritten_in taken),
    )

pub returns-in_ok-insert-in-None : goal.returns-in_ok-insert-in-None
returns-in_ok-insert-in-None c =
    let m = c.args.self.now in
    let puts = rw c.get_mut.follows.holds-at-none at c.in_ok-insert-in-None.ensures.entries in
    let old = rw c.get_mut.follows.holds-at-none at c.in_ok-insert-in-None.ensures.old in
    let sum = total-insert m c.insert.new.self c.args.group c.args.older c.in_ok-insert-in-None.field-0 c.in-None.ensures.value old puts in (
      sym (ap (option_map table_of) c.in-None.ensures.value),
      table_changed m c.insert.new.self c.args.group (Some c.args.older) (rw c.get_mut.follows.holds-at-none at c.in_ok-insert-in-None.ensures.updates),
      omega (arith, sum),
    )
