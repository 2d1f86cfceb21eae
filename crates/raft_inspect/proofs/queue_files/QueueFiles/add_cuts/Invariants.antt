use Rattle.std.proofs.Common.{◌≡◌, ◌++◌, drop, length, map}
use Rattle.raft_inspect.specs.Cuts.{cuts_in, place_of}
use Rattle.raft_inspect.proofs.queue_files.QueueFiles.add_cuts.Given as goal

-- what was added, and what is added for the files that are left, are the cuts of all
abbrev pub invariant-files : goal.invariant-files
invariant-files l =
    map place_of l.cuts.items ++ cuts_in l.mode l.files l.checks
    ≡ map place_of l.fn.cuts.items ++ cuts_in l.mode (drop l.self.passed l.self.files.items) (drop l.self.passed l.self.checks.items)

abbrev pub decreases-files : goal.decreases-files
decreases-files l = length l.checks
