use Rattle.std.proofs.Common.{◌≡◌, ◌∙◌, [], List, Some, None, ap, cond, sym}
use Rattle.std.specs.Prelude.{Vec, option_map}
use Rattle.std.specs.declared.alloc.Global.{Global}
use Rattle.raft_once.specs.Numbers.{numbered}
use Rattle.raft_log_engine.specs.Once.{acting_batch}
use Rattle.raft_script.specs.Batches.{batch_of_acts, once_batch}
use Rattle.raft_allowed.specs.Changes.{batch_in}
use Rattle.raft_allowed.specs.declared.changes.Change.{Change}
use Rattle.raft_allowed.proofs.NumberLemmas.{once_is}
use Rattle.raft_allowed.proofs.batches.acting_changes.Goals as goal

pub returns-in_default : goal.returns-in_default
returns-in_default c = λ m held.
    let none : batch_of_acts c.args.acts.now ≡ None = sym c.in_ok-made.ensures ∙ ap (option_map (λ (some : Vec Change Global). batch_in some.items)) c.in_default.is in
    rw c.new.ensures.items (sym (ap (λ o. once_batch m o c.args.pairs.now) none))

pub returns-then-not-may_act : goal.returns-then-not-may_act
returns-then-not-may_act c = λ m held.
    let items = batch_in c.in-Some.changes.items in
    let pairs = c.args.pairs.now in
    let made : batch_of_acts c.args.acts.now ≡ Some items = sym c.in_ok-made.ensures ∙ ap (option_map (λ (some : Vec Change Global). batch_in some.items)) c.in-Some.is in
    let acts : acting_batch m items pairs ≡ [] =
    ap (λ (l : List Change). acting_batch m (batch_in l) pairs) (sym c.deref.ensures.value) ∙ c.may_act.ensures m held ∙ ap (λ b. cond b (numbered (batch_in c.deref.result.now) pairs) []) c.if-not-may_act.true in
    rw c.new-then-not-may_act.ensures.items (once_is m (batch_of_acts c.args.acts.now) items pairs [] c.numbers_fit.ensures made acts)

pub returns : goal.returns
returns c = λ m held.
    let items = batch_in c.in-Some.changes.items in
    let pairs = c.args.pairs.now in
    let made : batch_of_acts c.args.acts.now ≡ Some items = sym c.in_ok-made.ensures ∙ ap (option_map (λ (some : Vec Change Global). batch_in some.items)) c.in-Some.is in
    let acts : acting_batch m items pairs ≡ numbered items pairs =
    ap (λ (l : List Change). acting_batch m (batch_in l) pairs) (sym c.deref.ensures.value) ∙ c.may_act.ensures m held ∙ ap (λ b. cond b (numbered (batch_in c.deref.result.now) pairs) []) c.if-not-may_act.false ∙ ap (λ (l : List Change). numbered (batch_in l) pairs) c.deref.ensures.value in
    c.in_ok-push_numbers.ensures ∙ once_is m (batch_of_acts c.args.acts.now) items pairs (numbered items pairs) c.numbers_fit.ensures made acts
