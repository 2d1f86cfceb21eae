use Rattle.std.proofs.Common.{refl}
use Rattle.raft_recovery_laws.proofs.MarkLemmas.{put_changes_nothing}
use Rattle.raft_recovery_laws.proofs.UnchangedLemmas.{rewriting_changes_nothing}
use Rattle.raft_recovery_laws.proofs.rewrite_laws.rewriting_changes_nothing.Goals as goal

pub returns-clause-key : goal.returns-clause-key
returns-clause-key c = put_changes_nothing

pub returns-clause-entries : goal.returns-clause-entries
returns-clause-entries c = rewriting_changes_nothing

pub returns-clause-mark : goal.returns-clause-mark
returns-clause-mark c = λ x appended id mark. refl
