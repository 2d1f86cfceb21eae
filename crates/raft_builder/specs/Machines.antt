-- Machines that were just made.
use Rattle.std.specs.Prelude.{List, []}
use Rattle.raft_base.specs.declared.pipe_log.LogQueue.{LogQueue}
use Rattle.raft_records.specs.FileBatches.{FileBatch}
use Rattle.raft_records.specs.Places.{Blocks}

-- a fresh machine stands for no batches
abbrev pub AreFresh : {M : Type 0} → (M → Type 0)
    → (LogQueue → Blocks → List FileBatch → M → List FileBatch → Type 0) → Type 0
AreFresh {M} is_new stands_for = (machine : M) → is_new machine → (queue : LogQueue)
    (blocks : Blocks) → stands_for queue blocks [] machine []
