use Rattle.std.specs.Prelude.{vec_len}
use Rattle.std.proofs.Common.{◌∙◌, arith, refl, sym, ap}
use Rattle.raft_log_engine.specs.Engine.{refusals_of}
use Rattle.raft_shared.specs.Begun.{contents_in, failed_in, lacks_numbers_in, refusals_in}
use Rattle.raft_shared.specs.Words.{asked_of, told_by}
use Rattle.raft_shared.proofs.CallLemmas.{write_ended, write_numbers}
use Rattle.raft_shared.proofs.PurgeLemmas.{groups_asked, none_asked, purge_counts, purge_ends, purge_is_legal, purge_leaves}
use Rattle.raft_shared.proofs.SharedLemmas.{event_is, has_recorded, left_after, stays_counted, stays_legal, told_is}
use Rattle.raft_shared.proofs.shared.Shared.purge_expired_files.Goals as goal

pub invariant_of-self : goal.invariant_of-self
invariant_of-self g c =
    let self = c.args.self.now in
    let purged = c.purge_expired_files-purged.ensures.value in
    let seat = c.reserve_call.new.seat.number in
    let is = event_is seat _ _ (record { seat = seat; call = c.in_ok-calls.calls.recorded; reply = c.of_purge.result }) refl (ap asked_of c.in_ok-calls.ensures.ok.0) c.of_purge.ensures.value in
    let base = contents_in self.begun.items in
    let some = sym c.is_out_of_numbers.ensures.value ∙ c.if-is_out_of_numbers.false in
    record {
      room = omega (arith, c.record-receipt.ensures.room, c.in_ok-reserve_call.ensures.ok, self.room);
      legal = stays_legal _ _ _ _ c.record-receipt.ensures.trail is base (lacks_numbers_in self.written.items) (lacks_numbers_in c.note_write.new.written.items) (purge_ends _ _ _ _ purged some _ _ c.note_write.ensures.value self.ended) (failed_in self.begun.items) _ _ self.legal (purge_is_legal _ _ _ seat _ purged _ _);
      contents = λ stands. purge_leaves _ _ _ seat _ purged _ self.contents stands ∙ sym (left_after _ _ _ _ c.record-receipt.ensures.trail is base);
      ended = write_numbers _ _ _ c.note_write.ensures.value;
      counted = stays_counted _ _ _ _ c.record-receipt.ensures.trail is (refusals_in self.begun.items) (refusals_of self.engine) (refusals_of c.purge_expired_files-purged.new.engine) self.counted (purge_counts _ _ _ seat _ purged);
    }

pub returns-clause-ok : goal.returns-clause-ok
returns-clause-ok g c =
    let purged = c.purge_expired_files-purged.ensures.value in
    let calls = c.in_ok-calls.ensures.ok in
    record {
      result = c.purge_expired_files-purged.result;
      purge = purged;
      groups = groups_asked _ _ _ c.unwrap_or.ensures;
      none = none_asked _ _ _ c.unwrap_or.ensures c.new.ensures.items;
      ended = write_ended c.purge_expired_files-purged.new.engine c.args.self.now.written.items c.note_write.new.written.items c.note_write.ensures.value;
      recorded = has_recorded _ _ _ _ _ _ _ _ _ (record { base = refl; failed = refl; refusals = refl; limit = refl; seats = refl }) c.record-receipt.ensures.trail (event_is _ _ _ (record { seat = c.reserve_call.new.seat.number; call = c.in_ok-calls.calls.recorded; reply = c.of_purge.result }) c.in_ok-reserve_call.ensures.unchanged.0 (ap asked_of calls.0) c.of_purge.ensures.value)
          (c.record-receipt.ensures.number ∙ c.in_ok-reserve_call.ensures.unchanged.0) _ c.record-receipt.ensures.receipts c.in_ok-reserve_call.ensures.unchanged.1
          (told_is _ _ _ (record { number = vec_len c.args.self.now.trail; call = c.in_ok-calls.calls.kept; reply = c.of_purge-2.result }) refl (ap asked_of calls.1) c.of_purge-2.ensures.value) (ap told_by c.record-receipt.ensures.value ∙ told_is _ _ _ (record { number = vec_len c.args.self.now.trail; call = c.in_ok-calls.calls.told; reply = c.of_purge-3.result }) refl (ap asked_of calls.2) c.of_purge-3.ensures.value);
    }
