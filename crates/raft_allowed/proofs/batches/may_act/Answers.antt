use Rattle.std.proofs.Common.{◌∙◌, sym}
use Rattle.raft_allowed.specs.Changes.{batch_in}
use Rattle.raft_allowed.proofs.NumberLemmas.{new_acts, numbers_act, unfit_acts}
use Rattle.raft_allowed.proofs.batches.may_act.Goals as goal

pub returns-then-are_unfit : goal.returns-then-are_unfit
returns-then-are_unfit c = λ m held. unfit_acts m (batch_in c.args.changes.now) c.args.pairs.now (sym c.are_unfit.ensures.value ∙ c.if-are_unfit.true)

pub returns-then-has_numbers : goal.returns-then-has_numbers
returns-then-has_numbers c = λ m held. numbers_act m (batch_in c.args.changes.now) c.args.pairs.now (sym c.are_unfit.ensures.value ∙ c.if-are_unfit.false) (sym c.has_numbers.ensures ∙ c.if-has_numbers.true)

pub returns : goal.returns
returns c = λ m held. new_acts m (batch_in c.args.changes.now) c.args.pairs.now c.are_new.result (sym c.are_unfit.ensures.value ∙ c.if-are_unfit.false) (sym c.has_numbers.ensures ∙ c.if-has_numbers.false) (c.are_new.ensures m held)
