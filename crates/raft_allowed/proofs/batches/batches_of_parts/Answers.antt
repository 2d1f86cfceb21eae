use Rattle.std.proofs.Common.{◌≡◌, ◌∙◌, ◌+◌, ◌++◌, ◌∷◌, [], List, Some, ap, drop, refl, subst, sym}
use Rattle.std.specs.Prelude.{Vec, option_map}
use Rattle.std.specs.declared.alloc.Global.{Global}
use Rattle.std.proofs.Math.ListN.{drop_of_length-le}
use Rattle.std.proofs.lemmas.List.{map-append}
use Rattle.raft_log_engine.specs.Cause.{plain_part}
use Rattle.raft_script.specs.Batches.{Part, batch_of_acts, batches_of_parts}
use Rattle.raft_allowed.specs.Changes.{batch_in, batches_in}
use Rattle.raft_allowed.specs.declared.changes.Change.{Change}
use Rattle.raft_allowed.proofs.ActLemmas.{ArePlainOf, plain_begun, plain_ended, plain_more, plain_refused}
use Rattle.raft_allowed.proofs.LoopLemmas.{ahead}
use Rattle.raft_allowed.proofs.batches.batches_of_parts.Goals as goal

pub loop-part-init : goal.loop-part-init
loop-part-init c = rw c.new-batches.ensures.items (plain_begun c.args.parts.now)

pub loop-part-preserved : goal.loop-part-preserved
loop-part-preserved c =
    let parts = c.args.parts.now in
    let i = c.loop-part.part-index in
    let part = c.part-item.result in
    let whole = batches_of_parts parts in
    let old = batches_in c.loop-part.batches.items in
    let made : batch_of_acts part.0.items ≡ Some (batch_in c.in-Some.changes.items) = ap batch_of_acts (sym c.deref.ensures.value) ∙ sym c.in_ok-made.ensures ∙ ap (option_map (λ (some : Vec Change Global). batch_in some.items)) c.in-Some.is in
    let pushed : batches_in c.push.new.self.items ≡ old ++ plain_part (batch_in c.in-Some.changes.items) ∷ [] =
    rw (c.in_ok-push.ensures.items, map-append (λ (b : Vec Change Global). batch_in b.items) c.loop-part.batches.items _, c.plain_part-plain.ensures) refl in
    plain_more old (batches_in c.push.new.self.items) (batch_in c.in-Some.changes.items) part (drop (i + 1) parts) whole made pushed
    (subst (λ (l : List Part). ArePlainOf old l whole) (ahead parts i part c.loop-part-test.true c.part-item.is) c.loop-part.invariant)

pub returns-in_default : goal.returns-in_default
returns-in_default c =
    let parts = c.args.parts.now in
    let i = c.loop-part.part-index in
    let part = c.part-item.result in
    let whole = batches_of_parts parts in
    let old = batches_in c.loop-part.batches.items in
    let none = ap batch_of_acts (sym c.deref.ensures.value) ∙ sym c.in_ok-made.ensures ∙ ap (option_map (λ (some : Vec Change Global). batch_in some.items)) c.in_default.is in
    rw c.new.ensures.items (plain_refused old part (drop (i + 1) parts) whole none (subst (λ (l : List Part). ArePlainOf old l whole) (ahead parts i part c.loop-part-test.true c.part-item.is) c.loop-part.invariant))

pub returns : goal.returns
returns c = plain_ended (batches_in c.loop-part.batches.items) _ (batches_of_parts c.args.parts.now) (drop_of_length-le c.args.parts.now c.loop-part-test.false) c.loop-part.invariant
