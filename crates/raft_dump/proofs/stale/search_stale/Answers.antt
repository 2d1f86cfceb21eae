use Rattle.std.proofs.Common.{◌≡◌, ◌∙◌, ℕ, ◌+◌, ◌-◌, ◌<◌, List, length, take, drop, length-drop, ap, arith}
use Rattle.std.proofs.lemmas.List.{take_all}
use Rattle.raft_dump.specs.Stale.{headed_len}
use Rattle.raft_dump.proofs.StaleLemmas.{headed_step}
use Rattle.raft_dump.proofs.stale.search_stale.Goals as goal

pub loop-at-preserved : goal.loop-at-preserved
loop-at-preserved c =
    let bytes = c.args.bytes.now in
    let at = c.loop-at.at in
    let within : at < length bytes = omega (arith, c.loop-at-test.true) in
    let whole : take (length bytes - at) (drop at bytes) ≡ drop at bytes = take_all (length bytes - at) (drop at bytes) (omega (arith, length-drop at bytes)) in
    let len : c.record_len-len.result ≡ headed_len (drop at bytes) = c.record_len-len.ensures.value ∙ ap headed_len whole in
    let step = headed_step bytes at within in
    (omega (arith, c.if-summed-len.false, c.loop-at.invariant.0), omega (arith, len, step, c.loop-at.invariant.1))
