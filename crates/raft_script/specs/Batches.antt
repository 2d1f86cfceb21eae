-- The batches of operations: which they are to write, which are accepted, and what may be in
-- flight.
use Rattle.std.specs.Prelude.{◌≡◌, ℕ, map, Bool, true, false, List, [], ◌∷◌, ◌++◌, Option, Some, None, option_and_then, option_map, Result, Ok, is_ok, if◌then◌else◌, Vec, unwrap_or}
use Rattle.std.specs.List.{list_any}
use Rattle.std.specs.declared.alloc.Global.{Global}
use Rattle.raft_records.specs.Batch.{is_internal_key}
use Rattle.raft_records.specs.Contents.{Contents}
use Rattle.raft_records.specs.Item.{Batch, Clean, Compact, Delete, Entries, Entry, Put}
use Rattle.raft_base.specs.declared.errors.Fault.{Fault}
use Rattle.raft_log_engine.specs.Cause.{plain_part, plain_parts}
use Rattle.raft_log_engine.specs.Group.{accepted_in, chosen_of}
use Rattle.raft_log_engine.specs.Once.{acting_batch}
use Rattle.raft_log_engine.specs.Reads.{compact_batch}
use Rattle.raft_once.specs.History.{are_numbers}
use Rattle.raft_once.specs.Numbers.{Pair}
use Rattle.raft_script.specs.declared.operation.Act.{Act}
use Rattle.raft_script.specs.declared.operation.Act.TheVariants as act
use Rattle.raft_script.specs.declared.operation.Op.{Op}
use Rattle.raft_script.specs.declared.operation.Op.TheVariants.{Write, WriteGroup, WriteOnce, Sync, CompactTo, RewriteAppend, RewriteRewrite, PurgeStale, Purge}
use Rattle.raft_script.specs.declared.operation.Outcome.{Outcome}
use Rattle.raft_script.specs.declared.operation.Outcome.TheVariants.{Size, Sizes, Done, Count, Dropped, ToCompact}

-- an index and bytes as a log holds them
abbrev pub indexed_bytes : ℕ × Vec ℕ Global → Entry
indexed_bytes e = (e.0, e.1.items)

-- entries as one item, or no item if there are none
abbrev pub entries_items : ℕ → List Entry → Batch
entries_items group [] = []
entries_items group (e ∷ es) = record { group = group; content = Entries (e ∷ es) } ∷ []

-- the items of an act; a key that begins with two underscores can't be put
abbrev pub items_of_act : Act → Option Batch
items_of_act (act.Put group key value) = if is_internal_key key.items then None else Some
    (record { group = group; content = Put key.items value.items } ∷ [])
items_of_act (act.Delete group key) =
    Some (record { group = group; content = Delete key.items } ∷ [])
items_of_act (act.Entries group entries) =
    Some (entries_items group (map indexed_bytes entries.items))
items_of_act (act.Clean group) = Some (record { group = group; content = Clean } ∷ [])
items_of_act (act.Compact group index) =
    Some (record { group = group; content = Compact index } ∷ [])

-- f of two values, if both exist
abbrev pub of_both : {A B C : Type 0} → (A → B → C) → Option A → Option B → Option C
of_both f first second = option_and_then (λ a. option_map (f a) second) first

-- the batch of the acts, if none of them is refused
abbrev pub batch_of_acts : List Act → Option Batch
batch_of_acts [] = Some []
batch_of_acts (a ∷ acts) =
    of_both (λ items others. items ++ others) (items_of_act a) (batch_of_acts acts)

-- the items of the acts, or none if one of them is refused
abbrev pub items_of_acts : List Act → Batch
items_of_acts acts = unwrap_or (batch_of_acts acts) []

-- one batch of a `WriteGroup`: its acts, and whether it asks for a sync
abbrev pub Part : Type 0
Part = Vec Act Global × Bool

-- the batches of a group's parts, if each part has one
abbrev pub batches_of_parts : List Part → Option (List Batch)
batches_of_parts [] = Some []
batches_of_parts (part ∷ parts) =
    of_both (λ batch others. batch ∷ others) (batch_of_acts part.0.items) (batches_of_parts parts)

-- the batches of a group's parts, or none if a part has none
abbrev pub group_batches : List Part → List Batch
group_batches parts = unwrap_or (batches_of_parts parts) []

-- what a write with numbers writes at these contents: nothing if it has no batch or doesn't act
abbrev pub once_batch : Contents → Option Batch → List Pair → Batch
once_batch m None pairs = []
once_batch m (Some items) pairs = if are_numbers pairs then acting_batch m items pairs else []

-- the batches that an operation is to write at these contents
abbrev pub batches_of_op : Contents → Op → List Batch
batches_of_op m (Write acts sync) = plain_part (items_of_acts acts.items) ∷ []
batches_of_op m (WriteGroup parts) = plain_parts (group_batches parts.items)
batches_of_op m (WriteOnce acts pairs sync) =
    once_batch m (batch_of_acts acts.items) pairs.items ∷ []
batches_of_op m (CompactTo group index) = compact_batch group index (m.entries group) ∷ []
batches_of_op m _ = []

-- the results of those batches
abbrev pub answers_in : Outcome → List (Result ℕ Fault)
answers_in (Size answer) = answer ∷ []
answers_in (Sizes (Ok answers)) = answers.items
answers_in (Count answer) = answer ∷ []
answers_in _ = []

-- those batches that were accepted
abbrev pub accepted_of : Contents → Op → Outcome → List Batch
accepted_of m op outcome = accepted_in (answers_in outcome) (batches_of_op m op)

-- the operation made all durable: a successful sync or purge, or a write that requested a sync
abbrev pub is_covering : Op → Outcome → Bool
is_covering (Write acts sync) (Size (Ok len)) = sync
is_covering (WriteOnce acts pairs sync) (Size (Ok len)) = sync
is_covering (WriteGroup parts) (Sizes (Ok answers)) = list_any (λ part. part.1) parts.items
is_covering Sync (Done (Ok x)) = true
is_covering (RewriteAppend watermark step) (Dropped (Ok count)) = true
is_covering RewriteRewrite (Dropped (Ok count)) = true
is_covering PurgeStale (Dropped (Ok count)) = true
is_covering Purge (ToCompact (Ok groups)) = true
is_covering _ _ = false

-- what a crash may find of an operation: a choice of its batches that the contents accept in turn
abbrev pub MayBeInFlight : Contents → Op → List Batch → Type 0
MayBeInFlight m op flight =
    ∥ ((choice : List Bool) × (flight ≡ chosen_of m choice (batches_of_op m op))) ∥₁

-- the operation succeeded; reads are not counted
abbrev pub is_answered : Outcome → Bool
is_answered (Size answer) = is_ok answer
is_answered (Sizes answer) = is_ok answer
is_answered (Done answer) = is_ok answer
is_answered (Count answer) = is_ok answer
is_answered (Dropped answer) = is_ok answer
is_answered (ToCompact answer) = is_ok answer
is_answered _ = false
