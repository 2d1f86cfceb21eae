use Rattle.std.proofs.Common.{ap, arith, subst, sym, ◌≡◌, ◌∙◌, ◌-◌, ℕ}
use Rattle.raft_base.specs.declared.pipe_log.FileId.{FileId}
use Rattle.raft_listeners.specs.Heard.{HasHeard, new_files}
use Rattle.raft_listeners.specs.Waiting.{is_append}
use Rattle.raft_listeners.proofs.HeardLemmas.{append_is, room_left}
use Rattle.raft_listeners.proofs.event_sink.tell_files.Goals as goal

pub tell-requires : goal.tell-requires
tell-requires g c = λ is.
    let queue = append_is c.args.queue (ap (λ (id : FileId). is_append id.queue) (sym c.new.ensures.value) ∙ is) in
    room_left c.args.queue c.args.first c.args.end c.loop-seq.seq (g.S.EventSink.heard c.args.sink.now) (g.S.EventSink.heard c.loop-seq.sink) c.loop-seq.invariant.heard (c.requires queue) c.loop-seq.invariant.begun c.loop-seq-test.true

pub returns : goal.returns
returns g c =
    let test = c.loop-seq-test.false in
    let begun = c.loop-seq.invariant.begun in
    let within = c.loop-seq.invariant.within in
    record {
      told = subst (λ (n : ℕ). HasHeard (new_files c.args.queue c.args.first n) (g.S.EventSink.heard c.args.sink.now) (g.S.EventSink.heard c.loop-seq.sink)) (omega (arith, test, begun, within)) c.loop-seq.invariant.heard;
    }
