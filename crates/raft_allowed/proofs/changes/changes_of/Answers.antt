use Rattle.std.proofs.Common.{List, ◌+◌, drop, subst}
use Rattle.std.proofs.Math.ListN.{drop_of_length-le}
use Rattle.raft_script.specs.Batches.{batch_of_acts}
use Rattle.raft_script.specs.declared.operation.Act.{Act}
use Rattle.raft_allowed.specs.Changes.{batch_in}
use Rattle.raft_allowed.proofs.ActLemmas.{AreOfActs, acts_begun, acts_ended, acts_more, acts_refused}
use Rattle.raft_allowed.proofs.LoopLemmas.{ahead}
use Rattle.raft_allowed.proofs.changes.changes_of.Goals as goal

pub loop-act-init : goal.loop-act-init
loop-act-init c = rw c.new-changes.ensures.items (acts_begun c.args.acts.now)

pub loop-act-preserved : goal.loop-act-preserved
loop-act-preserved c =
    let acts = c.args.acts.now in
    let i = c.loop-act.act-index in
    let act = c.act-item.result in
    let whole = batch_of_acts acts in
    let one = rw c.if-not-done.false at c.in_ok-done.ensures in
    acts_more (batch_in c.loop-act.changes.items) one.0 (batch_in c.push_change.new.changes.items) act (drop (i + 1) acts) whole one.1 one.2
    (subst (λ (l : List Act). AreOfActs (batch_in c.loop-act.changes.items) l whole) (ahead acts i act c.loop-act-test.true c.act-item.is) c.loop-act.invariant)

pub returns-then-not-done : goal.returns-then-not-done
returns-then-not-done c =
    let acts = c.args.acts.now in
    let i = c.loop-act.act-index in
    let act = c.act-item.result in
    let whole = batch_of_acts acts in
    let none = rw c.if-not-done.true at c.in_ok-done.ensures in
    acts_refused (batch_in c.loop-act.changes.items) act (drop (i + 1) acts) whole none
    (subst (λ (l : List Act). AreOfActs (batch_in c.loop-act.changes.items) l whole) (ahead acts i act c.loop-act-test.true c.act-item.is) c.loop-act.invariant)

pub returns : goal.returns
returns c = acts_ended (batch_in c.loop-act.changes.items) _ (batch_of_acts c.args.acts.now) (drop_of_length-le c.args.acts.now c.loop-act-test.false) c.loop-act.invariant
