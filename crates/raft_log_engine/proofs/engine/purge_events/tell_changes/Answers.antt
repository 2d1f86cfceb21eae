use Rattle.raft_log_engine.proofs.EventLemmas.{heard_three}
use Rattle.raft_log_engine.proofs.engine.purge_events.tell_changes.Goals as goal

pub returns : goal.returns
returns g c = record {
  told = heard_three _ _ _ (g.L.EventSink.heard c.args.listeners.now) (g.L.EventSink.heard c.tell_begun.new.listeners) (g.L.EventSink.heard c.tell_dropped.new.listeners) (g.L.EventSink.heard c.tell_dropped-2.new.listeners) c.tell_begun.ensures.told c.tell_dropped.ensures.told c.tell_dropped-2.ensures.told;
}
