use Rattle.std.proofs.Common.{sym, ◌∙◌, ap}
use Rattle.raft_memory.specs.Armed.{arms_of, due_kind}
use Rattle.raft_memory.proofs.ArmedLemmas.{due_kind-here, due_kind-later}
use Rattle.raft_memory.proofs.armed.Armed.due_kind.Goals as goal

pub returns-then-is_due : goal.returns-then-is_due
returns-then-is_due c =
    let here = due_kind-here c.args.call c.deref-armed-items.result.now c.loop-armed.armed-index c.armed-item.result c.loop-armed-test.true c.armed-item.is (sym c.is_due.ensures ∙ c.if-is_due.true) in
    sym here ∙ c.loop-armed.invariant ∙ ap (λ l. due_kind c.args.call (arms_of l)) c.deref-armed-items.ensures.value

pub loop-armed-preserved : goal.loop-armed-preserved
loop-armed-preserved c =
    sym (due_kind-later c.args.call c.deref-armed-items.result.now c.loop-armed.armed-index c.armed-item.result c.loop-armed-test.true c.armed-item.is (sym c.is_due.ensures ∙ c.if-is_due.false)) ∙ c.loop-armed.invariant
