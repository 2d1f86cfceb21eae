-- The counts of failed calls.
use Rattle.std.specs.Prelude.{ℕ, length}
use Rattle.raft_env.specs.Refusal.{Refusals}
use Rattle.raft_memory.specs.declared.refusals.RefusalCount.{RefusalCount}

-- one entry stands for each lack of memory
abbrev pub refusals_in : RefusalCount → Refusals
refusals_in count = record { storage = count.storage; memory = length count.memory.items }

-- so many by storage
abbrev pub by_storage : ℕ → Refusals
by_storage count = record { storage = count; memory = 0 }
