use Rattle.std.proofs.Common.{◌≡◌, ◌∙◌, Err, Ok, sym, inl, inr}
use Rattle.raft_c_log.specs.Refusals.{IsBytesRefusal}
use Rattle.raft_c_batch.specs.declared.batch.BatchFault.TheVariants.{Refused}
use Rattle.raft_log_engine.specs.Calls.{IsCallersWrite}
use Rattle.raft_c_log.proofs.CallLemmas.{comes_err, comes_ok, wrote}
use Rattle.raft_c_log.proofs.RefusalLemmas.{invalid_code, item_refused, none_taken, taken_items}
use Rattle.raft_c_log.proofs.open_log.OpenLog.write.Goals.{in-Ok, in-Err-Malformed, in-Err-Refused}
use Rattle.raft_c_log.proofs.open_log.OpenLog.write.Goals as goal

pub returns-in-Ok-done : goal.returns-in-Ok-done
returns-in-Ok-done g c = record {
  called = elim c.match-add_items.branch [
    | in-Ok w ↦ wrote _ _ (IsBytesRefusal c.args.bytes.now) (λ e items rest result. IsCallersWrite items rest c.args.sync c.args.self.now.engine e result) w.write-done.result (Ok tt) (λ i. (w.self-is i).1.1.0) (taken_items c.args.self.now.emptied w.in-Ok.ensures.ok) (comes_ok (sym w.done-is ∙ c.in-Ok-done.is)) (record { call = w.write-done.ensures.call; taken = w.write-done.ensures.taken; reserved = w.write-done.ensures.reserved; plain = w.write-done.ensures.plain })
    | in-Err-Malformed w ↦ absurd (let clash = sym w.done-is ∙ c.in-Ok-done.is in cc)
    | in-Err-Refused w ↦ absurd (let clash = sym w.done-is ∙ c.in-Ok-done.is in cc)
  ];
}

pub returns-in-Err : goal.returns-in-Err
returns-in-Err g c = record {
  called = elim c.match-add_items.branch [
    | in-Ok w ↦ wrote _ _ (IsBytesRefusal c.args.bytes.now) (λ e items rest result. IsCallersWrite items rest c.args.sync c.args.self.now.engine e result) w.write-done.result (Err c.in-Err.fault) (λ i. (w.self-is i).1.1.0) (taken_items c.args.self.now.emptied w.in-Ok.ensures.ok) (comes_err (λ _. Unit {0}) (sym w.done-is ∙ c.in-Err.is)) (record { call = w.write-done.ensures.call; taken = w.write-done.ensures.taken; reserved = w.write-done.ensures.reserved; plain = w.write-done.ensures.plain })
    | in-Err-Malformed w ↦ inl (inl (none_taken c.args.self.now.batch.items c.args.bytes.now _ w.in-Err-Malformed.field-0-is w.in-Err-Malformed.ensures.cause, invalid_code (sym w.done-is ∙ c.in-Err.is)), λ i. (w.self-is i).1.1.0)
    | in-Err-Refused w ↦
        let is : w.in-Err-Refused.field-0 ≡ Refused c.in-Err.fault = (let shown = w.in-Err-Refused.field-0-is in let fault = w.in-Err-Refused.fault-is in let done = w.done-is in let err = c.in-Err.is in cc) in
        inl (inr (item_refused c.args.self.now.batch.items c.args.bytes.now _ _ c.args.self.now.emptied is w.in-Err-Refused.ensures.cause), λ i. (w.self-is i).1.1.0)
  ];
}
