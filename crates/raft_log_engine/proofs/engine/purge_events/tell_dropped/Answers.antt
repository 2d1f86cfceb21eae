use Rattle.std.proofs.Common.{◌∷◌, ◌≤◌, [], arith, subst}
use Rattle.std.specs.Prelude.{◌<◌}
use Rattle.raft_base.specs.declared.pipe_log.FileId.{FileId}
use Rattle.raft_listeners.specs.Heard.{HasHeard}
use Rattle.raft_listeners.specs.declared.listener.Event.TheVariants as event
use Rattle.raft_log_engine.proofs.EventLemmas.{none_dropped, some_dropped}
use Rattle.raft_log_engine.proofs.engine.purge_events.tell_dropped.Goals as goal

pub returns-then-before-first : goal.returns-then-before-first
returns-then-before-first g c =
    let none : c.args.first ≤ c.args.before = omega (arith, c.if-before-first.true) in
    record { told = none_dropped c.args.queue c.args.before c.args.first (g.L.EventSink.heard c.args.listeners.now) none }

pub returns : goal.returns
returns g c =
    let a = g.L.EventSink.heard c.args.listeners.now in
    let b = g.L.EventSink.heard c.tell.new.self in
    let less : c.args.before < c.args.first = omega (arith, c.if-before-first.false) in
    record { told = some_dropped c.args.queue c.args.before c.args.first a b less (subst (λ (id : FileId). HasHeard (event.Purge id ∷ []) a b) c.new.ensures.value c.tell.ensures.told) }
