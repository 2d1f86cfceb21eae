use Rattle.std.specs.List.{list_all}
use Rattle.std.proofs.Common.{◌≡◌, ◌∙◌, ◌∷◌, ℕ, List, None, ap, length, map, subst, sym}
use Rattle.raft_listeners.specs.Heard.{HasHeard}
use Rattle.raft_listeners.specs.Told.{appended_lens, found_in, is_of_rewrite, is_rewrite, record_lens}
use Rattle.raft_listeners.specs.declared.listener.Event.{Event}
use Rattle.raft_listeners.specs.declared.listener.Event.TheVariants as event
use Rattle.raft_listeners.proofs.HeardLemmas.{rewrite_more, told_more}
use Rattle.raft_records.specs.Record.{record_bytes}
use Rattle.raft_listeners.proofs.purge_events.PurgeEvents.tell_record.Goals as goal

pub invariant_of-self : goal.invariant_of-self
invariant_of-self g c =
    let old = c.args.self.now in
    let a = g.L.EventSink.heard old.listeners.now in
    let b = g.L.EventSink.heard c.tell.new.self in
    let one = event.Append c.args.handle in
    record {
      heard = subst (λ (l : List Event). HasHeard l (found_in (map g.L.EventSink.heard old.found.items) b) b) (sym c.with-self.ensures)
          (told_more g.L.EventSink.heard old.found.items one old.told.items a b old.some old.heard c.tell.ensures.told);
      some = old.some;
      of_rewrite = ap (list_all is_of_rewrite) c.with-self.ensures ∙ rewrite_more one old.told.items (ap is_rewrite c.requires.queue) old.of_rewrite;
      lens = ap appended_lens c.with-self.ensures
          ∙ ap (λ (n : ℕ). n ∷ appended_lens old.told.items) c.requires.len
          ∙ ap (λ (ls : List ℕ). length (record_bytes None c.args.batch.now.items) ∷ ls) old.lens
          ∙ sym (ap record_lens c.with-self-2.ensures);
    }
