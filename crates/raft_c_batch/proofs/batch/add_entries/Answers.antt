use Rattle.std.proofs.Common.{◌≡◌, ◌⊎◌, ◌∙◌, List, Some, map, ap, subst, sym, rules, arith}
use Rattle.raft_base.specs.declared.errors.Fault.TheVariants.{Memory}
use Rattle.raft_codec.specs.Number.{take_u64}
use Rattle.raft_records.specs.Batch.{BatchView, size_refusal, with_entries_item}
use Rattle.raft_c_batch.specs.declared.entry.Entry.{Entry}
use Rattle.raft_c_batch.specs.Batch.{stored_of}
use Rattle.raft_c_batch.proofs.LoopLemmas.{entries_added, entries_refused, if_err}
use Rattle.raft_c_batch.proofs.batch.add_entries.Goals as goal

pub returns-clause-ok : goal.returns-clause-ok
returns-clause-ok c =
    let counted : take_u64 c.args.bytes.now ≡ Some (c.in_ok-count.count, c.in_ok-count.rest.now) = search rules in
    let added = entries_added c.args.batch.now c.args.group c.in_ok-count.count c.args.bytes.now c.in_ok-count.rest.now c.in_ok-entries.rest.now (map stored_of c.in_ok-entries.entries.items) (omega (arith, c.if-count-eq0.false)) counted c.in_ok-entries.ensures.ok in
    let put : c.add_entries.new.self ≡ with_entries_item c.args.batch.now c.args.group (map stored_of c.in_ok-entries.entries.items) =
    c.in_ok-add_entries.ensures.ok ∙ ap (λ (es : List Entry). with_entries_item c.args.batch.now c.args.group (map stored_of es)) c.deref.ensures.value in
    added ∙ ap (λ (b : BatchView). Some (b.items, c.in_ok-entries.rest.now)) (sym put)

pub returns-in_err-add_entries-clause-cause : goal.returns-in_err-add_entries-clause-cause
returns-in_err-add_entries-clause-cause c =
    let counted : take_u64 c.args.bytes.now ≡ Some (c.in_ok-count.count, c.in_ok-count.rest.now) = search rules in
    let refusal : (size_refusal (with_entries_item c.args.batch.now c.args.group (map stored_of c.in_ok-entries.entries.items)).items ≡ Some c.in_err-add_entries.field-0.0) ⊎ (c.in_err-add_entries.field-0.0 ≡ Memory) =
    subst (λ (es : List Entry). (size_refusal (with_entries_item c.args.batch.now c.args.group (map stored_of es)).items ≡ Some c.in_err-add_entries.field-0.0) ⊎ (c.in_err-add_entries.field-0.0 ≡ Memory)) c.deref.ensures.value c.in_err-add_entries.ensures.cause in
    let refused = entries_refused c.args.batch.now c.args.group c.in_ok-count.count c.args.bytes.now c.in_ok-count.rest.now c.in_ok-entries.rest.now (map stored_of c.in_ok-entries.entries.items) c.in_err-add_entries.field-0.0 (omega (arith, c.if-count-eq0.false)) counted c.in_ok-entries.ensures.ok refusal in
    if_err _ _ _ c.from_residual-in_err-add_entries.ensures.1 refused
