use Rattle.std.proofs.Common.{◌∙◌, ap, refl}
use Rattle.std.specs.Prelude.{Err, Result}
use Rattle.raft_base.specs.declared.errors.Fault.{Fault}
use Rattle.raft_shared.specs.History.{Done, Reason}
use Rattle.raft_shared.specs.Words.{reply_by}
use Rattle.raft_shared.proofs.call.Reply.of_purge.Goals.{in-Ok, in-Err}
use Rattle.raft_shared.proofs.call.Reply.of_purge.Goals as goal

pub returns : goal.returns
returns c = elim c.match-purged.branch [
  | in-Ok w ↦ record { value = ap (λ (r : Result (Unit {0}) Fault). Done (reply_by (λ _. tt) r)) w.result-is ∙ rw w.in-Ok.is refl }
  | in-Err w ↦ record { value = ap (λ (r : Result (Unit {0}) Fault). Done (reply_by (λ _. tt) r)) w.result-is ∙ (ap (λ (e : Reason). Done (Err e)) w.without_path.ensures.value ∙ rw w.in-Err.is refl) }
]
