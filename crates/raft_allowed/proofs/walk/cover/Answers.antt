use Rattle.std.proofs.Common.{◌∙◌, ap, sym}
use Rattle.raft_log_engine.specs.declared.engine.image.Image.{Image}
use Rattle.raft_allowed.proofs.WalkLemmas.{covered_no, covered_yes}
use Rattle.raft_allowed.proofs.walk.cover.Goals as goal

pub returns-then-not-is_covering : goal.returns-then-not-is_covering
returns-then-not-is_covering c = λ p is. covered_no p c.args.op.now c.args.outcome.now c.args.reached.now (sym c.is_covering.ensures ∙ c.if-not-is_covering.true) is

pub returns : goal.returns
returns c = λ p is.
    covered_yes p c.args.op.now c.args.outcome.now c.args.reached.now c.forget.new.reached (sym c.is_covering.ensures ∙ c.if-not-is_covering.false) is c.forget.ensures.none (ap (λ (x : Image). x.groups.items) c.forget.ensures.last)
