use Rattle.raft_allowed.proofs.WalkLemmas.{none_more}
use Rattle.raft_allowed.proofs.walk.accept_one.Goals as goal

pub returns-then-not-accepted : goal.returns-then-not-accepted
returns-then-not-accepted c = λ p is. rw c.if-not-accepted.true (none_more p c.args.reached.now is)

pub returns : goal.returns
returns c = rw c.if-not-accepted.false c.write_some.ensures
