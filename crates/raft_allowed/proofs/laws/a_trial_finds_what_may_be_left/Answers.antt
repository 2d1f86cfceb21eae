use Rattle.std.proofs.Common.{refl}
use Rattle.raft_allowed.proofs.TrialLemmas.{trial_left}
use Rattle.raft_allowed.proofs.laws.a_trial_finds_what_may_be_left.Goals as goal

pub returns : goal.returns
returns c = record {
  found = trial_left _ (λ files. refl) c.crash_leaves_contents.ensures.found;
}
