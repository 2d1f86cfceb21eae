-- What whoever listens is told of a purge.
use Rattle.std.specs.Prelude.{◌≡◌, ◌-◌, ℕ, suc, Bool, true, false, List, [], ◌∷◌, ◌++◌, None, length, map}
use Rattle.raft_base.specs.declared.pipe_log.FileId.{FileId}
use Rattle.raft_base.specs.declared.pipe_log.LogQueue.{LogQueue}
use Rattle.raft_base.specs.declared.pipe_log.LogQueue.TheVariants.{Append, Rewrite}
use Rattle.raft_listeners.specs.Heard.{Heard, new_files}
use Rattle.raft_listeners.specs.declared.listener.Event.{Event}
use Rattle.raft_listeners.specs.declared.listener.Event.TheVariants as event
use Rattle.raft_records.specs.Batch.{BatchView}
use Rattle.raft_records.specs.Record.{record_bytes}

-- whether it is the Rewrite queue
abbrev pub is_rewrite : LogQueue → Bool
is_rewrite Append = false
is_rewrite Rewrite = true

-- an event of the Rewrite queue, and none of a drop
abbrev pub is_of_rewrite : Event → Bool
is_of_rewrite (event.NewLogFile id) = is_rewrite id.queue
is_of_rewrite (event.Append block) = is_rewrite block.id.queue
is_of_rewrite (event.Apply id) = is_rewrite id.queue
is_of_rewrite (event.Purge id) = false

-- how listeners were found: as the newest of these, or as they are now
abbrev pub found_in : List Heard → Heard → Heard
found_in [] now = now
found_in (found ∷ earlier) now = found

-- a file of the Rewrite queue
abbrev pub rewrite_file : ℕ → FileId
rewrite_file seq = record { queue = Rewrite; seq = seq }

-- these events, and then that records of these files of the Rewrite queue were applied, in order
abbrev pub with_applied : List ℕ → List Event → List Event
with_applied [] told = told
with_applied (seq ∷ later) told = with_applied later (event.Apply (rewrite_file seq) ∷ told)

-- the files of the Rewrite queue behind one number, up to another
abbrev pub new_from : ℕ → ℕ → List Event
new_from before last = new_files Rewrite (suc before) (last - before)

-- the lengths of the records that were appended
abbrev pub appended_lens : List Event → List ℕ
appended_lens [] = []
appended_lens (event.NewLogFile id ∷ told) = appended_lens told
appended_lens (event.Append block ∷ told) = block.len ∷ appended_lens told
appended_lens (event.Apply id ∷ told) = appended_lens told
appended_lens (event.Purge id ∷ told) = appended_lens told

-- the lengths of the records of batches
abbrev pub record_lens : List BatchView → List ℕ
record_lens batches = map (λ batch. length (record_bytes None batch.items)) batches
