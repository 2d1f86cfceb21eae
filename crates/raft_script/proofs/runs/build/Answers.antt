use Rattle.std.proofs.lemmas.Result.{err_from_is_err_and}
use Rattle.raft_script.proofs.RunLemmas.{acts_ended, built_more, taken_built, unbuilt_by}
use Rattle.raft_script.proofs.runs.build.Goals as goal

pub loop-act-preserved : goal.loop-act-preserved
loop-act-preserved c =
    let kept = c.loop-act.invariant in
    let done = c.in_ok-add.ensures.ok in
    rw done.2 (record {
      rest = built_more c.loop-act.batch.items c.loop-act.act-index c.args.acts.now c.act-item.result done.0 c.loop-act-test.true c.act-item.is done.1 kept.rest;
      first = taken_built c.loop-act.batch.items done.0 c.loop-act.act-index c.args.acts.now c.act-item.result c.loop-act-test.true c.act-item.is done.1 kept.first;
    })

pub returns-in_err-add-clause-cause : goal.returns-in_err-add-clause-cause
returns-in_err-add-clause-cause c =
    let kept = c.loop-act.invariant in
    let at = c.loop-act.act-index in
    let p = err_from_is_err_and c.from_residual.result c.from_residual.ensures.1 in
    rw (p.1, p.2) (unbuilt_by _ c.loop-act.batch.items at c.args.acts.now c.act-item.result c.loop-act-test.true c.act-item.is kept.rest kept.first c.in_err-add.ensures.cause)

pub returns-clause-value : goal.returns-clause-value
returns-clause-value c = acts_ended c.loop-act.batch.items c.loop-act.act-index c.args.acts.now c.loop-act-test.false c.loop-act.invariant.rest
