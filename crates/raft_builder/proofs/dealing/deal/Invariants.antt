use Rattle.std.proofs.Common.{◌≡◌, ◌++◌, length}
use Rattle.std.specs.List.{AllByRecursion, flat_map}
use Rattle.raft_builder.proofs.dealing.deal.Given as goal

-- the parts so far, and the files that are left
abbrev pub invariant-loop-part : goal.invariant-loop-part
invariant-loop-part g l = record {
  parts : flat_map (λ job. job.logs.items) l.jobs.items ++ l.part.items ≡ l.fn.logs.items;
  machines : AllByRecursion (λ job. g.FA.Factory.is_new job.machine) l.jobs.items;
}

abbrev pub decreases-loop-part : goal.decreases-loop-part
decreases-loop-part g l = length l.part.items
