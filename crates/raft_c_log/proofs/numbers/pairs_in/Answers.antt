use Rattle.std.proofs.Common.{◌∙◌, arith, sym}
use Rattle.std.specs.Prelude.{zip}
use Rattle.std.proofs.lemmas.List.{take_all}
use Rattle.std.proofs.lemmas.Slice.Zip.{length-zip}
use Rattle.raft_c_log.proofs.NumberLemmas.{zip_more}
use Rattle.raft_c_log.proofs.numbers.pairs_in.Goals as goal

pub loop-place-preserved : goal.loop-place-preserved
loop-place-preserved c =
    let groups = c.args.groups.now in
    let numbers = c.args.numbers.now in
    let within = c.loop-place-test.true in
    let ends = c.min-place-end.ensures in
    rw (c.in_ok-push.ensures.items, c.loop-place.invariant) (sym (zip_more groups numbers c.loop-place.place (omega (arith, within, ends, c.loop-place.auto.place-end)) (omega (arith, within, ends, c.loop-place.auto.place-end))))

pub returns-clause-ok : goal.returns-clause-ok
returns-clause-ok c =
    let groups = c.args.groups.now in
    let numbers = c.args.numbers.now in
    let all = length-zip groups numbers in
    c.loop-place.invariant ∙ take_all c.loop-place.place (zip groups numbers) (omega (arith, all, c.loop-place-test.false, c.min-place-end.ensures, c.loop-place.auto.place-end))
