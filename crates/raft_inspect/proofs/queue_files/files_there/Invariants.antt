use Rattle.std.proofs.Common.{◌≡◌, ◌-◌, ◌++◌, drop, length, map}
use Rattle.raft_env.specs.Moments.{OnlyReads}
use Rattle.raft_dump.specs.LogFiles.{place_of}
use Rattle.raft_inspect.specs.Listed.{all_there}
use Rattle.raft_inspect.proofs.queue_files.files_there.Given as goal

-- those so far, and those of the folders that are left
abbrev pub invariant-folders : goal.invariant-folders
invariant-folders g l =
    OnlyReads g.F.FileSystem.directory g.F.FileSystem.moments g.F.FileSystem.refusals_of l.fn.file_system l.file_system
    × (map place_of l.files.items ++ all_there l.queue (g.F.FileSystem.directory l.fn.file_system) (drop l.place l.folders)
    ≡ all_there l.queue (g.F.FileSystem.directory l.fn.file_system) l.folders)

abbrev pub decreases-folders : goal.decreases-folders
decreases-folders g l = length l.folders - l.place
