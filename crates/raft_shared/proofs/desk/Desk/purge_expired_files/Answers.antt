use Rattle.std.proofs.Common.{subst, sym}
use Rattle.raft_shared.specs.Shared.{RecordsPurge}
use Rattle.raft_shared.specs.declared.call.Receipt.{Receipt}
use Rattle.raft_shared.proofs.Durability.{durable_so, purge_covers}
use Rattle.raft_shared.proofs.Noting.{begins_so, front_begins}
use Rattle.raft_shared.proofs.Origins.{origin_kept, origin_so}
use Rattle.raft_shared.proofs.desk.Desk.purge_expired_files.Goals as goal

pub returns-clause-ok : goal.returns-clause-ok
returns-clause-ok g c =
    subst (λ (r : Receipt). RecordsPurge c.args.barrier c.args.self.now.shared c.purge_expired_files.new.self c.args.seat.now c.purge_expired_files.new.seat c.in_ok-receipt.field-0.asked.items r) (sym c.note-receipt.ensures.receipt) c.in_ok-receipt.ensures.ok

pub invariant_of-self-2 : goal.invariant_of-self-2
invariant_of-self-2 g c =
    let old = c.args.self.now in
    let ok = c.in_ok-receipt.ensures.ok in
    record {
      begins = front_begins _ _ _ _ _ _ _ ok.recorded old.front old.begins _ _ (rw c.number-number.ensures.value at c.note-receipt.ensures.some) c.note-receipt.ensures.none;
      durable = purge_covers _ _ _ _ _ _ _ _ _ old.durable ok c.synced_by-self.ensures.value;
      origin = origin_kept _ _ _ old.origin ok.recorded.same ok.purge.log.others;
    }

pub invariant_of-self : goal.invariant_of-self
invariant_of-self g c =
    let old = c.args.self.now in
    let none = c.in_err-receipt.ensures.err in
    record {
      begins = begins_so _ _ old.front none.history old.begins;
      durable = durable_so _ old.shared c.purge_expired_files.new.self old.durable none.same.base none.history none.engine;
      origin = origin_so _ _ _ old.origin none.same none.engine;
    }
