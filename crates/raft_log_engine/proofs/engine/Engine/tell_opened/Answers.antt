use Rattle.std.proofs.Common.{◌≡◌, ◌+◌, ◌-◌, ◌++◌, ℕ, List, [], ap, append-nil, arith, subst, suc}
use Rattle.raft_base.specs.declared.pipe_log.LogQueue.{LogQueue}
use Rattle.raft_base.specs.declared.pipe_log.LogQueue.TheVariants.{Append, Rewrite}
use Rattle.raft_listeners.specs.Heard.{HasHeard, Heard, new_files}
use Rattle.raft_listeners.specs.declared.listener.Event.{Event}
use Rattle.raft_pipes.specs.PipeState.{PipeState, last_seq}
use Rattle.raft_log_engine.specs.Engine.{queue_of, rewrite_queue_of}
use Rattle.raft_log_engine.specs.Events.{files_of}
use Rattle.raft_log_engine.proofs.EventLemmas.{heard_three}
use Rattle.raft_log_engine.proofs.engine.Engine.tell_opened.Goals as goal

-- the files of a span are all of its queue
span_files : (queue : LogQueue) (p : PipeState) (span : ℕ × ℕ) (a b : Heard) → span ≡ (p.first, last_seq p) → HasHeard (new_files queue span.0 ((span.1 + 1) - span.0)) a b → HasHeard (files_of queue p) a b
span_files queue p span a b is told =
    let at : span.0 ≡ p.first = ap (λ (x : ℕ × ℕ). x.0) is in
    let end : span.1 ≡ last_seq p = ap (λ (x : ℕ × ℕ). x.1) is in
    let count : (span.1 + 1) - span.0 ≡ suc (last_seq p) - p.first = omega (arith, at, end) in
    subst (λ (n : ℕ). HasHeard (new_files queue n (suc (last_seq p) - p.first)) a b) at (subst (λ (n : ℕ). HasHeard (new_files queue span.0 n) a b) count told)

pub returns-clause-told : goal.returns-clause-told
returns-clause-told g c =
    let e = c.args.self.now in
    let append = files_of Append (queue_of e) in
    let rewrite = files_of Rewrite (rewrite_queue_of e) in
    let a = g.L.EventSink.heard c.args.listeners.now in
    let b = g.L.EventSink.heard c.make_room.new.self in
    let d = g.L.EventSink.heard c.tell_files.new.sink in
    let k = g.L.EventSink.heard c.tell_files-2.new.sink in
    subst (λ (l : List Event). HasHeard (rewrite ++ l) a k) (append-nil append)
    (heard_three [] append rewrite a b d k c.make_room.ensures.same (span_files Append (queue_of e) c.file_span-first.result b d c.file_span-first.ensures.value c.tell_files.ensures.told)
    (span_files Rewrite (rewrite_queue_of e) c.file_span-first-2.result d k c.file_span-first-2.ensures.value c.tell_files-2.ensures.told))
