use Rattle.std.proofs.Common.{◌∙◌, sym}
use Rattle.raft_allowed.specs.Changes.{item_of}
use Rattle.raft_allowed.proofs.LoopLemmas.{written_none, written_one}
use Rattle.raft_allowed.proofs.WalkLemmas.{none_more}
use Rattle.raft_allowed.proofs.walk.write_some.Goals as goal

pub returns-then-is_empty : goal.returns-then-is_empty
returns-then-is_empty c = λ p is. rw (written_none item_of c.args.batch.now (sym c.is_empty.ensures ∙ c.if-is_empty.true)) (none_more p c.args.reached.now is)

pub returns : goal.returns
returns c = rw (written_one item_of c.args.batch.now (sym c.is_empty.ensures ∙ c.if-is_empty.false)) c.write.ensures
