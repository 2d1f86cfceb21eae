use Rattle.std.proofs.Common.{Some, arith}
use Rattle.raft_tables.proofs.JoiningLemmas.{total-put}
use Rattle.raft_tables.proofs.TablesLemmas.{table_changed}
use Rattle.raft_tables.proofs.memtables.MemTables.set_table.Goals as goal

pub returns-in-Some-clause-ok : goal.returns-in-Some-clause-ok
returns-in-Some-clause-ok c = table_changed c.args.self.now c.insert.new.self c.args.group (Some c.args.table) c.in_ok-before.ensures.updates

pub returns-in-Some-clause-total : goal.returns-in-Some-clause-total
returns-in-Some-clause-total c =
    let sum = total-put c.args.self.now c.insert.new.self c.args.group c.args.table c.in_ok-before.field-0 c.in_ok-before.ensures.old c.in_ok-before.ensures.entries in
    let counted = rw c.in-Some.is at sum in
    omega (arith, counted, c.rewritten.ensures.value)

pub returns-in-None-clause-total : goal.returns-in-None-clause-total
returns-in-None-clause-total c =
    let sum = total-put c.args.self.now c.insert.new.self c.args.group c.args.table c.in_ok-before.field-0 c.in_ok-before.ensures.old c.in_ok-before.ensures.entries in
    let counted = rw c.in-None.is at sum in
    omega (arith, counted)
