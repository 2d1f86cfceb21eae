use Rattle.std.proofs.Common.{◌≡◌, ◌+◌, ◌∷◌, ◌≤◌, [], arith, subst, suc}
use Rattle.std.specs.Prelude.{◌<◌}
use Rattle.raft_base.specs.declared.pipe_log.FileId.{FileId}
use Rattle.raft_listeners.specs.Heard.{HasHeard}
use Rattle.raft_listeners.specs.declared.listener.Event.TheVariants as event
use Rattle.raft_log_engine.proofs.EventLemmas.{none_begun, some_begun}
use Rattle.raft_log_engine.proofs.engine.purge_events.tell_begun.Goals as goal

pub returns-then-before-last : goal.returns-then-before-last
returns-then-before-last g c =
    let none : c.args.last ≤ c.args.before = omega (arith, c.if-before-last.true) in
    record { told = none_begun c.args.before c.args.last (g.L.EventSink.heard c.args.listeners.now) none }

pub returns : goal.returns
returns g c =
    let a = g.L.EventSink.heard c.args.listeners.now in
    let b = g.L.EventSink.heard c.tell.new.self in
    let less : c.args.before < c.args.last = omega (arith, c.if-before-last.false) in
    let next : c.args.before + 1 ≡ suc c.args.before = omega arith in
    record { told = some_begun c.args.before c.args.last (c.args.before + 1) a b less next (subst (λ (id : FileId). HasHeard (event.NewLogFile id ∷ []) a b) c.new.ensures.value c.tell.ensures.told) }
