use Rattle.std.proofs.Common.{rules, ◌≡◌, ◌∙◌, ◌≤◌, List, Option, ℕ, ap, arith, length, sym, subst}
use Rattle.raft_listeners.specs.Heard.{Heard, waiting_after}
use Rattle.raft_listeners.specs.Waiting.{IsFirstWaiting, Waiting}
use Rattle.raft_listeners.specs.declared.listener.Event.{Event}
use Rattle.raft_listeners.proofs.HeardLemmas.{least_lesser}
use Rattle.raft_listeners.proofs.listeners.Listeners.barrier.Goals as goal

pub returns : goal.returns
returns g c = record {
  answered = record {
    hook = c.first_waiting-kept.result;
    answers = c.loop-listener.answers.items;
    each = search rules;
    first = subst (λ (h : Heard). IsFirstWaiting (waiting_after h.told) c.first_waiting-kept.result) c.self.view_is (subst (λ (w : Waiting). IsFirstWaiting w c.first_waiting-kept.result) c.self.invariant c.first_waiting-kept.ensures.value);
    least = c.lesser.ensures.value ∙ least_lesser c.args.active c.loop-listener.barrier c.first_waiting-kept.result c.loop-listener.answers.items c.loop-listener.invariant.least;
    asked = search rules;
    given = search rules;
    told = search rules;
    room = search rules;
  };
}
