use Rattle.std.proofs.Common.{◌≤◌, arith, length, sym}
use Rattle.raft_shared.proofs.SettledLemmas.{settled_at_end}
use Rattle.raft_shared.proofs.settled.has_its_calls.Goals as goal

pub returns : goal.returns
returns c =
    let past : length c.args.trail.now ≤ c.loop-number.number = omega (arith, c.loop-number-test.false, c.loop-number.auto.number-end) in
    let told = settled_at_end c.args.seat.now.number c.receipts-receipts.result.now c.args.trail.now c.loop-number.next c.loop-number.number c.loop-number.invariant.0 past c.loop-number.invariant.1 in
    let all = c.receipts-receipts.ensures.value in
    record { value = rw (sym all) told }
