-- Files of a queue, and how many of their records wait for the tables.
use Rattle.std.specs.Prelude.{◌≡◌, ℕ, suc, ◌+◌, ◌-◌, ◌^◌, ◌<◌, max, nat_le, nat_lt, ◌==◌, ◌&&◌, ◌||◌, Bool, true, false, List, [], ◌∷◌, ◌++◌, length, drop, Option, slice_index, if◌then◌else◌}
use Rattle.std.specs.List.{All, AllWithin, slice_set}
use Rattle.std.specs.Option.{MatchOption}
use Rattle.std.specs.VecDeque.{deque_len, deque_capacity}
use Rattle.raft_base.specs.declared.pipe_log.LogQueue.{LogQueue}
use Rattle.raft_base.specs.declared.pipe_log.LogQueue.TheVariants.{Append, Rewrite}
use Rattle.raft_listeners.specs.declared.listener.Event.{Event}
use Rattle.raft_listeners.specs.declared.listener.Event.TheVariants as event
use Rattle.raft_listeners.specs.declared.hook.PurgeHook.{PurgeHook}

-- files whose numbers follow one another from the first on, and of each how many of its records were
-- appended and not applied yet
pub record Waiting : Type 0 where
  pub first : ℕ
  pub counts : List ℕ

-- the files that a hook holds
abbrev pub waiting_of : PurgeHook → Waiting
waiting_of hook = record { first = hook.first; counts = hook.counts.items }

-- for how many files more it has room
abbrev pub room_of : PurgeHook → ℕ
room_of hook = deque_capacity hook.counts - deque_len hook.counts

-- the number behind the last file
abbrev pub end_of : Waiting → ℕ
end_of files = files.first + length files.counts

-- whether a hook holds this file
abbrev pub is_held : Waiting → ℕ → Bool
is_held files seq = nat_le files.first seq && nat_lt seq (end_of files)

-- how many records of a held file wait
abbrev pub waiting_at : Waiting → ℕ → ℕ
waiting_at files seq = slice_index files.counts (seq - files.first)

-- a file is the next one, or any where there is none; numbers end before 10^16
abbrev pub can_follow : Waiting → ℕ → Bool
can_follow files seq =
    nat_lt seq (10 ^ 16) && (length files.counts == 0 || seq == end_of files)

-- with this file as the last, of which no record waits
abbrev pub with_file : Waiting → ℕ → Waiting
with_file files seq = record {
  first = if length files.counts == 0 then seq else files.first;
  counts = files.counts ++ 0 ∷ [];
}

-- the count of a held file may be one more
abbrev pub can_raise : Waiting → ℕ → Bool
can_raise files seq = is_held files seq && nat_lt (waiting_at files seq) (2 ^ 64 - 1)

-- the count of a held file may be one less
abbrev pub can_lower : Waiting → ℕ → Bool
can_lower files seq = is_held files seq && nat_lt 0 (waiting_at files seq)

-- with this count of a held file
abbrev pub with_count : Waiting → ℕ → ℕ → Waiting
with_count files seq count = record {
  first = files.first;
  counts = slice_set files.counts (seq - files.first) count;
}

-- a file isn't past the last one
abbrev pub can_drop : Waiting → ℕ → Bool
can_drop files seq = nat_lt 0 (length files.counts) && nat_lt seq (end_of files)

-- without the files up to this one
abbrev pub without_files : Waiting → ℕ → Waiting
without_files files seq = record {
  first = max files.first (suc seq);
  counts = drop (suc seq - files.first) files.counts;
}

-- the least file with a record that waits
abbrev pub IsFirstWaiting : Waiting → Option ℕ → Type 0
IsFirstWaiting files found = MatchOption found (All (λ n. n ≡ 0) files.counts) (λ seq.
    (is_held files seq ≡ true) × (0 < waiting_at files seq)
    × AllWithin (λ n. n ≡ 0) files.counts 0 (seq - files.first))

-- whether it is the Append queue
abbrev pub is_append : LogQueue → Bool
is_append Append = true
is_append Rewrite = false

-- only what is told of the Append queue counts
abbrev pub where_append : LogQueue → Waiting → Waiting → Waiting
where_append Append new old = new
where_append Rewrite new old = old

-- what a hook with room makes of what it is told: what is out of order changes nothing
abbrev pub after_event : Waiting → Event → Waiting
after_event files (event.NewLogFile id) =
    where_append id.queue (if can_follow files id.seq then with_file files id.seq else files) files
after_event files (event.Append block) = where_append block.id.queue (if can_raise files block.id.seq
    then with_count files block.id.seq (suc (waiting_at files block.id.seq)) else files) files
after_event files (event.Apply id) = where_append id.queue (if can_lower files id.seq
    then with_count files id.seq (waiting_at files id.seq - 1) else files) files
after_event files (event.Purge id) =
    where_append id.queue (if can_drop files id.seq then without_files files id.seq else files) files

-- of a new file of the Append queue, for which the hook needs room
abbrev pub needs_room : Event → Bool
needs_room (event.NewLogFile id) = is_append id.queue
needs_room told = false

-- how much of its room an event takes
abbrev pub room_for : Event → ℕ
room_for told = if needs_room told then 1 else 0
