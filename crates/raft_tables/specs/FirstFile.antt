-- The first file of a queue in which something stands: entries.
use Rattle.std.specs.Prelude.{◌≡◌, ℕ, suc, zero, min, Bool, true, false, nat_le, List, fold, Some, option_map, unwrap_or, slice_get, Contains}
use Rattle.raft_base.specs.declared.pipe_log.FileBlockHandle.{FileBlockHandle}
use Rattle.raft_base.specs.declared.pipe_log.FileId.{FileId}
use Rattle.raft_base.specs.declared.pipe_log.LogQueue.{LogQueue}
use Rattle.raft_base.specs.declared.pipe_log.LogQueue.TheVariants.{Append, Rewrite}
use Rattle.raft_records.specs.declared.entry_index.EntryPlace.{EntryPlace}

-- the lesser of a number and that of a file, where this is one of the queue
abbrev pub lesser_in : LogQueue → LogQueue → ℕ → ℕ → ℕ
lesser_in Append Append least seq = min least seq
lesser_in Append Rewrite least seq = least
lesser_in Rewrite Append least seq = least
lesser_in Rewrite Rewrite least seq = min least seq

-- the lesser of a number and the file's, if the file is of the queue
abbrev pub lesser_file : LogQueue → ℕ → FileId → ℕ
lesser_file queue least id = lesser_in queue id.queue least id.seq

-- the lesser of a number and the place's file, if that is of the queue
abbrev pub lesser_place : LogQueue → ℕ → EntryPlace → ℕ
lesser_place queue least place =
    unwrap_or (option_map (λ block. lesser_file queue least block.id) place.block) least

-- the least number of a file of the queue in which an entry stands, or this one
abbrev pub first_of_entries : LogQueue → ℕ → List (ℕ × EntryPlace) → ℕ
first_of_entries queue at_most es = fold (λ least e. lesser_place queue least e.1) at_most es

-- an entry stands in this file
abbrev pub HasEntryIn : FileId → List (ℕ × EntryPlace) → Type 0
HasEntryIn id es = (e : ℕ × EntryPlace) × (block : FileBlockHandle) × Contains es e
    × (e.1.block ≡ Some block) × (block.id ≡ id)

-- one file isn't after another: the Rewrite queue's come before the Append queue's, and those of one
-- queue are in the order of their numbers
abbrev pub is_in_order : LogQueue → LogQueue → ℕ → ℕ → Bool
is_in_order Rewrite Rewrite seq other = nat_le seq other
is_in_order Rewrite Append seq other = true
is_in_order Append Rewrite seq other = false
is_in_order Append Append seq other = nat_le seq other

-- whether the place is in the last file's queue, at or before that file
abbrev pub is_up_to : FileId → EntryPlace → Bool
is_up_to last place = unwrap_or
    (option_map (λ block. is_in_order block.id.queue last.queue block.id.seq last.seq) place.block)
    false

-- the nth of the entries is there, in a file that isn't after this one; of no entries nothing is asked
abbrev pub has_some_up_to : FileId → ℕ → List (ℕ × EntryPlace) → Bool
has_some_up_to last zero es = true
has_some_up_to last (suc n) es =
    unwrap_or (option_map (λ e. is_up_to last e.1) (slice_get es n)) false
