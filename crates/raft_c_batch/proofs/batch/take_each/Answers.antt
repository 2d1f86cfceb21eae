use Rattle.std.proofs.Common.{◌-◌, ◌+◌, ◌∙◌, map, sym, arith}
use Rattle.std.proofs.lemmas.List.{map-append}
use Rattle.raft_c_batch.specs.Batch.{stored_of}
use Rattle.raft_c_batch.proofs.LoopLemmas.{entries_end, entries_next, entry_refused, if_err}
use Rattle.raft_c_batch.proofs.batch.take_each.Goals as goal

pub returns-in_err-entry-clause-cause : goal.returns-in_err-entry-clause-cause
returns-in_err-entry-clause-cause c =
    if_err _ _ _ c.from_residual.ensures.1
    (entry_refused c.in_err-entry.field-0.0 (map stored_of c.loop.entries.items) c.args.count (c.args.count - c.loop.counter) c.args.bytes.now c.loop.rest.now (omega arith) c.loop.invariant.read c.in_err-entry.ensures.cause)

pub loop-preserved : goal.loop-preserved
loop-preserved c =
    let next = entries_next (map stored_of c.loop.entries.items) (stored_of c.in_ok-entry.entry) (c.args.count - c.loop.counter) (c.args.count - (c.loop.counter + 1)) c.loop.rest.now c.in_ok-entry.tail.now (omega arith) c.in_ok-entry.ensures.ok in
    record { read = rw (c.in_ok-push_entry.ensures.ok, map-append stored_of c.loop.entries.items _) (next ∙ c.loop.invariant.read) }

pub returns-clause-ok : goal.returns-clause-ok
returns-clause-ok c =
    sym c.loop.invariant.read ∙ entries_end (map stored_of c.loop.entries.items) (c.args.count - c.loop.counter) c.loop.rest.now (omega arith)
