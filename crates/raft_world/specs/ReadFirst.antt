-- Without the premise: which batches are read first after a crash with any damage.
use Rattle.std.specs.Prelude.{◌≡◌, ◌++◌, List}
use Rattle.raft_base.specs.declared.pipe_log.LogQueue.TheVariants.{Append, Rewrite}
use Rattle.raft_records.specs.Contents.{Contents}
use Rattle.raft_records.specs.Item.{Batch}
use Rattle.raft_env.specs.Directory.{Directory}
use Rattle.raft_env.specs.declared.env.FileSystem.{Ghosts}
use Rattle.raft_config.specs.Folders.{Folders}
use Rattle.raft_pipes.specs.Folder.{readable_queue}
use Rattle.raft_recovery_laws.specs.Recovered.{recovered}
use Rattle.raft_world.specs.Ledger.{Ledger, MayFind}
use Rattle.raft_world.specs.Happens.{Happens, IsAfterCrash, LeavesLog, Node, files_of}

-- the batches that are read first of both queues make contents with P; more batches may follow them
abbrev pub ReadsFirst : (Contents → Type 0) → Folders → Directory → Type 0
ReadsFirst P folders n = ∥ ((rewritten appended later more : List Batch)
    × (readable_queue Rewrite folders n ≡ rewritten ++ later)
    × (readable_queue Append folders n ≡ appended ++ more)
    × P (recovered rewritten appended)) ∥₁

-- what is read first after a crash with any damage is what an opening may find: of a node between
-- two calls, inside a call, a close or an opening, or down; perhaps without the reserved files
abbrev pub WhatIsKeptIsReadFirst : {F H R W : Type 0} → Ghosts F H R W → Type 0
WhatIsKeptIsReadFirst g = (folders : Folders) (first : Ledger) (node : Node g) (l : Ledger)
    → Happens g folders first node l → (after later : Directory)
    → IsAfterCrash (files_of g node) after → LeavesLog folders after later
    → ReadsFirst (MayFind l) folders later
