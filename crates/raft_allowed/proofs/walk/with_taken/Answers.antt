use Rattle.std.proofs.Common.{◌∙◌, List, subst, sym}
use Rattle.raft_log_engine.specs.declared.engine.image.Image.{Image}
use Rattle.raft_allowed.specs.Changes.{batch_in, item_of}
use Rattle.raft_allowed.specs.Walk.{AreHeldBy}
use Rattle.raft_allowed.proofs.LoopLemmas.{mapped_none, some_left}
use Rattle.raft_allowed.proofs.TakenLemmas.{none_taken, taken_behind}
use Rattle.raft_allowed.proofs.walk.with_taken.Goals as goal

pub returns-then-is_empty : goal.returns-then-is_empty
returns-then-is_empty c = λ ms are. none_taken c.args.found.items ms (batch_in c.args.batch.now) (mapped_none item_of c.args.batch.now (sym c.is_empty.ensures ∙ c.if-is_empty.true)) are

pub taken_from-requires : goal.taken_from-requires
taken_from-requires c = some_left c.args.batch.now (sym c.is_empty.ensures ∙ c.if-is_empty.false)

pub returns : goal.returns
returns c = λ ms are.
    taken_behind c.args.found.items c.in_ok-taken.taken.items c.append.new.self.items ms (batch_in c.args.batch.now) c.in_ok-append.ensures.items are (c.in_ok-taken.ensures ms (subst (λ (l : List Image). AreHeldBy l ms) (sym c.deref.ensures.value) are))
