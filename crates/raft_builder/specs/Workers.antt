-- How many workers read each queue, and how many files each takes.
use Rattle.std.specs.Prelude.{ℕ, ◌+◌, ◌-◌, ◌*◌, ◌/◌, ◌==◌, ◌||◌, min, max, if◌then◌else◌}
use Rattle.raft_builder.specs.declared.chunks.Workers.{Workers}

-- queues with files share the workers by how many they have
abbrev pub shared : ℕ → ℕ → ℕ → ℕ
shared all append rewrite = max 1 (all * append / (append + rewrite))

-- how many workers each queue gets; all, if the other has no files
abbrev pub share_out : ℕ → ℕ → ℕ → Workers
share_out all append rewrite =
    if append == 0 || rewrite == 0 then record { append = all; rewrite = all }
    else record {
      append = shared all append rewrite;
      rewrite = max 1 (all - shared all append rewrite);
    }

-- the workers of both queues, for so many threads and files: one Rewrite file takes no thread
-- from the Append queue
abbrev pub workers_for : ℕ → ℕ → ℕ → Workers
workers_for threads append rewrite =
    if rewrite == 1 then record { append = max 1 (min threads append); rewrite = 1 }
    else share_out (min threads (append + rewrite)) append rewrite

-- how many of these files each of so many workers takes
abbrev pub files_a_chunk : ℕ → ℕ → ℕ
files_a_chunk files workers = max 1 ((files + workers - 1) / workers)
