use Rattle.std.proofs.Common.{◌≡◌, ◌∙◌, Bool, true, false, ap, refl, sym}
use Rattle.std.specs.Prelude.{not}
use Rattle.raft_allowed.specs.Held.{Held, held_at, held_of, is_nil}
use Rattle.raft_allowed.proofs.GroupLemmas.{at_here, at_later, at_none}
use Rattle.raft_allowed.proofs.batches.has_entries.Goals as goal

twice : (b : Bool) → b ≡ not (not b)
twice true = refl
twice false = refl

pub loop-image-preserved : goal.loop-image-preserved
loop-image-preserved c =
    at_later c.args.groups.now c.loop-image.image-index c.image-item.result c.args.group c.loop-image-test.true c.image-item.is (sym c.is_of.ensures ∙ c.if-is_of.false) c.loop-image.invariant

pub returns-then-is_of : goal.returns-then-is_of
returns-then-is_of c =
    let here = at_here c.args.groups.now c.loop-image.image-index c.image-item.result c.args.group c.loop-image-test.true c.image-item.is (sym c.is_of.ensures ∙ c.if-is_of.true) c.loop-image.invariant in
    let told : c.are_no_entries.result ≡ is_nil (held_at c.args.group (held_of c.args.groups.now)).entries = c.are_no_entries.ensures ∙ rw c.deref.ensures.value (ap (λ (h : Held). is_nil h.entries) here) in
    sym told ∙ twice c.are_no_entries.result

pub returns : goal.returns
returns c = sym (ap (λ (h : Held). is_nil h.entries) (at_none c.args.groups.now c.loop-image.image-index c.args.group c.loop-image-test.false c.loop-image.invariant))
