use Rattle.std.proofs.Common.{◌≡◌, ◌∙◌, ◌∷◌, [], ℕ, List, ap}
use Rattle.std.specs.Prelude.{Vec}
use Rattle.std.specs.declared.alloc.Global.{Global}
use Rattle.std.proofs.lemmas.Result.{IfOk-weaker}
use Rattle.raft_records.specs.Item.{Entry}
use Rattle.raft_log_engine.specs.Cause.{plain_part, plain_parts}
use Rattle.raft_log_engine.specs.Reads.{compact_batch}
use Rattle.raft_script.specs.Batches.{group_batches, items_of_acts}
use Rattle.raft_allowed.specs.Changes.{batches_in}
use Rattle.raft_allowed.specs.Held.{held_at, held_of}
use Rattle.raft_allowed.specs.declared.changes.Change.{Change}
use Rattle.raft_allowed.proofs.batches.batches_of.Goals as goal

pub returns-in-Write : goal.returns-in-Write
returns-in-Write c =
    rw c.in-Write.is
    (IfOk-weaker c.of_write.result (λ (b : Vec (Vec Change Global) Global). batches_in b.items ≡ plain_part (items_of_acts c.in-Write.acts.items) ∷ []) _ (λ b is m held. is) (rw c.deref.ensures.value at c.of_write.ensures))

pub returns-in-WriteGroup : goal.returns-in-WriteGroup
returns-in-WriteGroup c =
    rw c.in-WriteGroup.is
    (IfOk-weaker c.batches_of_parts.result (λ (b : Vec (Vec Change Global) Global). batches_in b.items ≡ plain_parts (group_batches c.in-WriteGroup.parts.items)) _ (λ b is m held. is) (rw c.deref-in-WriteGroup.ensures.value at c.batches_of_parts.ensures))

pub returns-in-CompactTo : goal.returns-in-CompactTo
returns-in-CompactTo c =
    let group : ℕ = c.in-CompactTo.group in
    let index : ℕ = c.in-CompactTo.index in
    rw c.in-CompactTo.is
    (IfOk-weaker c.of_compaction.result (λ (b : Vec (Vec Change Global) Global). batches_in b.items ≡ compact_batch group index (held_at group (held_of c.args.groups.now)).entries ∷ []) _
    (λ b is m held. is ∙ ap (λ (es : List Entry). compact_batch group index es ∷ []) (held.each group).entries) c.of_compaction.ensures)
