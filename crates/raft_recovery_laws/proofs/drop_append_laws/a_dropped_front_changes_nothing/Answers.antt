use Rattle.std.proofs.Common.{◌++◌}
use Rattle.raft_recovery_laws.specs.Recovered.{effect, recovered}
use Rattle.raft_recovery_laws.proofs.ContentsLemmas.{effect_consecutive}
use Rattle.raft_recovery_laws.proofs.DropFrontLemmas.{recovered-without, holds-without}
use Rattle.raft_recovery_laws.proofs.drop_append_laws.a_dropped_front_changes_nothing.Goals as goal

pub returns-clause-dropped : goal.returns-clause-dropped
returns-clause-dropped c = recovered-without

pub returns-clause-needed : goal.returns-clause-needed
returns-clause-needed c = λ rewritten front rest run consecutive same. holds-without (effect rewritten) (recovered rewritten (front ++ rest)) rest (effect_consecutive rewritten run) consecutive same
