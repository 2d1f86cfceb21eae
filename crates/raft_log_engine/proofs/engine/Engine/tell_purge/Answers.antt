use Rattle.std.proofs.Common.{sym, ◌∙◌, subst}
use Rattle.std.proofs.lemmas.Bool.{false≢true}
use Rattle.raft_listeners.specs.Heard.{HasHeard}
use Rattle.raft_log_engine.specs.Events.{purge_events}
use Rattle.raft_log_engine.specs.declared.engine.file_spans.FileSpans.{FileSpans}
use Rattle.raft_log_engine.proofs.engine.Engine.tell_purge.Goals as goal

pub returns-then-self : goal.returns-then-self
returns-then-self g c = record { told = λ stands. absurd (false≢true (sym stands ∙ c.if-self.true)) }

pub returns : goal.returns
returns g c = record {
  told = λ stands. subst (λ (s : FileSpans). HasHeard (purge_events c.args.found.now s) (g.L.EventSink.heard c.args.listeners.now) (g.L.EventSink.heard c.tell_changes.new.listeners)) c.file_spans.ensures.value c.tell_changes.ensures.told;
}
