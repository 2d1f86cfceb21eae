use Rattle.std.proofs.Common.{◌∙◌, List, ap, subst, sym}
use Rattle.std.specs.Prelude.{Vec}
use Rattle.std.specs.declared.alloc.Global.{Global}
use Rattle.raft_log_engine.specs.Group.{accepted_in}
use Rattle.raft_script.specs.Batches.{answers_in}
use Rattle.raft_script.specs.Headline.{Progress}
use Rattle.raft_allowed.specs.Changes.{batches_in}
use Rattle.raft_allowed.specs.Walk.{IsReached, with_batches}
use Rattle.raft_allowed.specs.declared.changes.Change.{Change}
use Rattle.raft_allowed.proofs.WalkLemmas.{gone_on}
use Rattle.raft_allowed.proofs.walk.go_on.Goals as goal

pub returns : goal.returns
returns c = λ p is.
    let answers = answers_in c.args.outcome.now in
    gone_on p c.args.op.now c.args.outcome.now (batches_in c.in_ok-batches.batches.items) c.args.reached.now c.cover.new.reached is (rw c.deref.ensures.value at c.in_ok-batches.ensures)
    (λ q same. c.cover.ensures q (subst (λ (r : Progress). IsReached r c.accept.new.reached) (ap (λ (l : List (Vec Change Global)). with_batches p (accepted_in answers (batches_in l))) c.deref-2.ensures.value ∙ sym same) (c.in_ok-accept.ensures p is)))
