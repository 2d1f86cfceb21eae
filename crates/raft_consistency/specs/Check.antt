-- The holes in what the log files of a folder hold.
use Rattle.std.specs.Prelude.{◌≡◌, ◌⊎◌, ℕ, Option, None, Result, Ok, Err, false}
use Rattle.std.specs.Option.{option_or}
use Rattle.raft_base.specs.declared.errors.Fault.{Fault}
use Rattle.raft_base.specs.declared.errors.Fault.TheVariants as fault
use Rattle.raft_base.specs.declared.pipe_log.LogQueue.{LogQueue}
use Rattle.raft_base.specs.declared.pipe_log.LogQueue.TheVariants.{Append, Rewrite}
use Rattle.raft_config.specs.Folders.{Folders}
use Rattle.raft_config.specs.declared.config.RecoveryMode.TheVariants.{TolerateAnyCorruption}
use Rattle.raft_env.specs.Directory.{Directory, Path}
use Rattle.raft_env.specs.Refusal.{Refusals}
use Rattle.raft_pipes.specs.Folder.{readable_queue}
use Rattle.raft_opening.specs.Queue.{IsOpenRefusalOf}
use Rattle.raft_consistency.specs.Holes.{holes_in}

-- the folder at this path, without a second one
abbrev pub folder_at : Path → Folders
folder_at path = record { main = path; spill = None }

-- for each group the hole in the Rewrite queue, or else the one in the Append queue
abbrev pub log_holes : Folders → Directory → ℕ → Option ℕ
log_holes folders n group = option_or (holes_in (readable_queue Rewrite folders n) group)
    (holes_in (readable_queue Append folders n) group)

-- the file system that the call returns, after `Ok` and after `Err`
abbrev pub handed_back : {T F : Type 0} → Result (T × F) (Fault × F) → F
handed_back (Ok done) = done.1
handed_back (Err refused) = refused.1

-- the fault is `InvalidArgument`
abbrev pub IsInvalidArgument : Fault → Type 0
IsInvalidArgument (fault.InvalidArgument text) = Unit {0}
IsInvalidArgument _ = ⊥

-- an opening of one of the queues that tolerates all damage fails so
abbrev pub IsReadRefusal : Folders → Directory → Refusals → Refusals → Fault → Type 0
IsReadRefusal folders n old new e =
    (queue : LogQueue) × IsOpenRefusalOf queue TolerateAnyCorruption folders n old new e

-- no folder is at the path, or its queues can't be read
abbrev pub IsCheckRefusal : Path → Directory → Refusals → Refusals → Fault → Type 0
IsCheckRefusal path n old new e = ((n.is_folder path ≡ false) × IsInvalidArgument e)
    ⊎ IsReadRefusal (folder_at path) n old new e
