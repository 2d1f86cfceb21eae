use Rattle.std.proofs.Common.{subst}
use Rattle.raft_recovery_laws.specs.Consecutive.{HasConsecutiveEntries}
use Rattle.raft_recovery_laws.proofs.ContentsLemmas.{effect_consecutive, replay_consecutive}
use Rattle.raft_recovery_laws.proofs.FixedLemmas.{consecutive_parts, replay-replay, replay-later, replay-more}
use Rattle.raft_recovery_laws.proofs.laws.older_batches_change_nothing.Goals as goal

pub returns-clause-again : goal.returns-clause-again
returns-clause-again c = replay-replay

pub returns-clause-later : goal.returns-clause-later
returns-clause-later c = replay-later

pub returns-clause-older : goal.returns-clause-older
returns-clause-older c = λ x found older newer run consecutive fixed is.
    replay-more x found older newer run (subst HasConsecutiveEntries is (replay_consecutive x newer run (consecutive_parts older newer consecutive).1)) consecutive fixed is

pub returns-clause-rewritten : goal.returns-clause-rewritten
returns-clause-rewritten c = effect_consecutive
