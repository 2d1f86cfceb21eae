use Rattle.std.proofs.Common.{get_or, take, append_assoc}
use Rattle.std.proofs.lemmas.List.{get_or_default}
use Rattle.raft_codec.specs.Number.{u64_bytes}
use Rattle.raft_c_batch.specs.Parts.{numbers_bytes}
use Rattle.raft_c_batch.proofs.PartLemmas.{numbers_more}
use Rattle.raft_c_batch.proofs.parts.push_numbers.Goals as goal

pub loop-number-preserved : goal.loop-number-preserved
loop-number-preserved c =
    let at = c.loop-number.number-index in
    let number = get_or c.args.numbers.now at 0 in
    let before = numbers_bytes (take at c.args.numbers.now) in
    rw (c.in_ok-push_u64.ensures.contents, c.loop-number.invariant, numbers_more c.args.numbers.now at number c.loop-number-test.true (get_or_default c.args.numbers.now at 0 number c.loop-number-test.true))
    (append_assoc c.args.bytes.now.items before (u64_bytes number))
