use Rattle.std.proofs.Common.{◌≡◌, ◌∙◌, List, ap, map, subst, sym, true}
use Rattle.std.specs.List.{list_all}
use Rattle.raft_listeners.specs.Heard.{HasHeard}
use Rattle.raft_listeners.specs.Told.{appended_lens, found_in, is_of_rewrite}
use Rattle.raft_listeners.specs.declared.listener.Event.{Event}
use Rattle.raft_listeners.proofs.HeardLemmas.{lens_still, rewrite_more, told_more}
use Rattle.raft_listeners.proofs.purge_events.PurgeEvents.tell.Goals as goal

pub invariant_of-self : goal.invariant_of-self
invariant_of-self g c =
    let old = c.args.self.now in
    let a = g.L.EventSink.heard old.listeners.now in
    let b = g.L.EventSink.heard c.tell.new.self in
    record {
      heard = subst (λ (l : List Event). HasHeard l (found_in (map g.L.EventSink.heard old.found.items) b) b) (sym c.with-self.ensures)
          (told_more g.L.EventSink.heard old.found.items c.args.event old.told.items a b old.some old.heard c.tell.ensures.told);
      some = old.some;
      of_rewrite = ap (list_all is_of_rewrite) c.with-self.ensures ∙ rewrite_more c.args.event old.told.items c.requires.queue old.of_rewrite;
      lens = ap appended_lens c.with-self.ensures ∙ lens_still c.args.event old.told.items c.requires.others ∙ old.lens;
    }
