use Rattle.std.proofs.Common.{◌≡◌, ◌-◌, ◌≤◌}
use Rattle.raft_listeners.specs.Heard.{HasHeard, new_files}
use Rattle.raft_listeners.proofs.event_sink.tell_files.Given as goal

abbrev pub invariant-loop-seq : goal.invariant-loop-seq
invariant-loop-seq g l = record {
  within : l.seq - l.first ≤ l.end - l.first;
  begun : l.first ≤ l.seq;
  heard : HasHeard (new_files l.queue l.first (l.seq - l.first)) (g.S.EventSink.heard l.fn.sink) (g.S.EventSink.heard l.sink);
}
