use Rattle.std.proofs.Common.{List, ◌++◌, length}
use Rattle.raft_dump.specs.declared.check.FileCheck.{FileCheck}
use Rattle.raft_env.specs.Moments.{OnlyReads}
use Rattle.raft_inspect.specs.Checks.{AreChecksOf}
use Rattle.raft_inspect.proofs.queue_files.checks_of.Given as goal

-- what can be read of the files that are left goes on what was read
abbrev pub invariant-files : goal.invariant-files
invariant-files g l = OnlyReads g.F.FileSystem.directory g.F.FileSystem.moments g.F.FileSystem.refusals_of l.fn.file_system l.file_system
    × ((checks : List FileCheck) → AreChecksOf (g.F.FileSystem.directory l.fn.file_system) l.left checks
    → AreChecksOf (g.F.FileSystem.directory l.fn.file_system) l.files (l.checks.items ++ checks))

abbrev pub decreases-files : goal.decreases-files
decreases-files g l = length l.left
