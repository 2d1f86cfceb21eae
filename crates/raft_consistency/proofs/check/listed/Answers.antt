use Rattle.std.proofs.Common.{◌≡◌, ◌∙◌, arith}
use Rattle.std.proofs.lemmas.Grind.{common_steps}
use Rattle.std.proofs.lemmas.List.{append-nil}
use Rattle.raft_consistency.proofs.TakenLemmas.{holes_listed}
use Rattle.raft_consistency.proofs.check.listed.Goals as goal

pub returns : goal.returns
returns c =
    let all : c.loop-group.pairs.items ≡ c.into_iter-group-iterator.result = grind (arith, common_steps, append-nil, c.in-None.ensures.steps, c.loop-group.invariant) in
    let gives = c.into_iter-group-iterator.ensures.into_iter_gives in
    record { value = holes_listed c.args.holes c.loop-group.pairs.items gives.5 (all ∙ gives.0) }
