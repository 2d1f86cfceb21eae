use Rattle.std.proofs.Common.{refl}
use Rattle.raft_allowed.proofs.TrialLemmas.{second_left, twice_left}
use Rattle.raft_allowed.proofs.laws.a_second_crash_leaves_no_more.Goals as goal

pub returns-clause-second : goal.returns-clause-second
returns-clause-second c = second_left _ (λ files. refl) c.crash_leaves_contents.ensures.found

pub returns-clause-found : goal.returns-clause-found
returns-clause-found c = twice_left _ (λ files. refl) c.crash_leaves_contents.ensures.found
