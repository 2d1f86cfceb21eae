use Rattle.std.proofs.Common.{◌≡◌, Some, slice_get, subst, sym, false}
use Rattle.std.specs.Prelude.{IfSome}
use Rattle.raft_shared.specs.Shared.{RecordsWrite, history_of}
use Rattle.raft_shared.specs.declared.call.Receipt.{Receipt}
use Rattle.raft_shared.specs.TicketCalls.{event_by}
use Rattle.raft_shared.proofs.Durability.{durable_so, write_keeps}
use Rattle.raft_shared.proofs.Noting.{begins_so, front_begins, front_ends}
use Rattle.raft_shared.proofs.Origins.{origin_kept, origin_so}
use Rattle.raft_shared.proofs.desk.Desk.write.Goals as goal

pub returns : goal.returns
returns g c =
    let old = c.args.self.now in
    let ok = c.in_ok-receipt.ensures.ok in
    record {
      ok = subst (λ (r : Receipt). RecordsWrite c.args.batch.now.items c.write.new.batch.items false c.args.self.now.shared c.write.new.self c.args.seat.now c.write.new.seat r) (sym c.note.ensures.receipt) c.in_ok-receipt.ensures.ok;
      front = subst (λ (r : Receipt). IfSome c.note.result.front (λ l. (l ≡ history_of c.write.new.self) × (slice_get l r.number ≡ Some (event_by c.args.seat.now.number r)))) (sym c.note.ensures.receipt)
          (front_ends _ _ _ _ _ _ _ ok.recorded old.front old.begins _ _ (rw c.number-number.ensures.value at c.note.ensures.some));
      err = tt;
      full = (λ is. absurd (cc is), λ room. absurd (cc (c.in_ok-receipt.ensures.full.1 room)));
      cause = tt;
    }

pub invariant_of-self-2 : goal.invariant_of-self-2
invariant_of-self-2 g c =
    let old = c.args.self.now in
    let ok = c.in_ok-receipt.ensures.ok in
    record {
      begins = front_begins _ _ _ _ _ _ _ ok.recorded old.front old.begins _ _ (rw c.number-number.ensures.value at c.note.ensures.some) c.note.ensures.none;
      durable = write_keeps _ _ _ _ _ _ _ _ old.durable ok;
      origin = origin_kept _ _ _ old.origin ok.recorded.same ok.write.call.advance.only.log;
    }

pub invariant_of-self : goal.invariant_of-self
invariant_of-self g c =
    let old = c.args.self.now in
    let none = c.in_err-receipt.ensures.err.0 in
    record {
      begins = begins_so _ _ old.front none.history old.begins;
      durable = durable_so _ old.shared c.write.new.self old.durable none.same.base none.history none.engine;
      origin = origin_so _ _ _ old.origin none.same none.engine;
    }
