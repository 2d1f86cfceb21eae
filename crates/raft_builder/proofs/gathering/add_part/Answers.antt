use Rattle.std.proofs.Common.{inr}
use Rattle.std.proofs.lemmas.Result.{err_from_is_err_and}
use Rattle.raft_builder.proofs.GatherLemmas.{answered_more, answered_refused, gathered_still}
use Rattle.raft_builder.proofs.gathering.add_part.Goals as goal

pub returns-in_err-machines : goal.returns-in_err-machines
returns-in_err-machines g c = λ answers before.
    let p = err_from_is_err_and c.from_residual.result c.from_residual.ensures.1 in
    let refused = (rw c.in_err-machines.was at before).refused in
    rw (p.1, p.2) (record { ok = tt; refused = gathered_still answers c.args.read c.in_err-machines.field-0.0 refused })

pub returns-in_err-machine : goal.returns-in_err-machine
returns-in_err-machine g c = λ answers before.
    let p = err_from_is_err_and c.from_residual-in_err-machine.result c.from_residual-in_err-machine.ensures.1 in
    let all = (rw c.in_ok-machines.was at before).ok in
    rw (p.1, p.2, c.in_err-machine.was) (record { ok = tt; refused = inr (answered_refused answers c.in_ok-machines.machines.items c.in_ok-machines.replayed.items all c.in_err-machine.field-0.0) })

pub returns : goal.returns
returns g c = λ answers before.
    let all = (rw c.in_ok-machines.was at before).ok in
    rw c.in_ok-machine.was (record {
      ok = rw (c.in_ok-push.ensures.items, c.in_ok-append.ensures.items) (answered_more answers c.in_ok-machines.machines.items c.in_ok-machines.replayed.items all c.in_ok-machine.machine c.in_ok-machine.logs);
      refused = tt;
    })
